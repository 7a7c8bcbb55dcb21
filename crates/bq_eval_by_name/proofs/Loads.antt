-- What loads bind: the values by names and by slots say the same.
use Rattle.std.proofs.Common.{◌≡◌, ◌≢◌, ◌<◌, ◌≤◌, ℕ, zero, suc, ◌+◌, Bool, true, false, cond, ◌||◌, ◌==◌, List, [], ◌∷◌, ◌++◌, length, Option, Some, None, is_some, bytes_eq, slice_get, refl, sym, ap, ◌∙◌, arith, eqb-true, eq-eqb, zero-add}
use Rattle.std.specs.Prelude.{if◌then◌else◌}
use Rattle.std.specs.Option.{option_map}
use Rattle.bq_parse_grammar.specs.declared.tree.LoadClause.{LoadClause}
use Rattle.bq_resolve_scope.specs.declared.loads.LoadStmt.{LoadStmt}
use Rattle.bq_resolve_scope.specs.declared.loads.LoadedSymbol.{LoadedSymbol}
use Rattle.bq_resolve_scope.specs.Names.{Name, has, place_among}
use Rattle.bq_resolve_laws.proofs.Uses.{place_within}
use Rattle.bq_value.specs.Datum.{Datum}
use Rattle.bq_eval_spec.specs.Frame.{Frame, empty, fill}
use Rattle.bq_eval_spec.specs.Slots as slots
use Rattle.bq_eval_spec.specs.ModuleByName as named
use Rattle.bq_eval_spec.specs.Names.{Env, bind, declare, outside}
use Rattle.bq_eval_by_name.specs.Shows.{through, Reads}
use Rattle.bq_eval_by_name.proofs.Envs.{reads_bind}
use Rattle.bq_eval_by_name.proofs.Slots.{one_place}
use Rattle.bq_eval_by_name.proofs.Fresh.{PlacesFrom}

-- ---- what has a place is there

there_by : (t rest : Bool) (o : Option ℕ) → is_some o ≡ rest → is_some (cond t (Some 0) (option_map suc o)) ≡ (t || rest)
there_by true rest o h = refl
there_by false rest None h = h
there_by false rest (Some i) h = h

has_place : (name : Name) (names : List Name) → is_some (place_among name names) ≡ has names name
unfolding place_among
has_place name [] = refl
has_place name (x ∷ xs) = there_by (bytes_eq name x) (has xs name) (place_among name xs) (has_place name xs)

module _ (names : List Name) where
  abbrev pub place : Name → Option ℕ
  place name = place_among name names

  declared_by : (o : Option ℕ) → (if is_some o then Some None else None) ≡ through empty o
  unfolding empty
  declared_by None = refl
  declared_by (Some k) = refl

  -- no name is bound yet
  pub nothing_bound : Reads place (declare outside names) empty
  unfolding declare outside
  nothing_bound name = rw (sym (has_place name names)) (declared_by (place name))

  -- ---- the values of clauses go to these places, where they have one

  abbrev pub filled : List (Option ℕ) → List Datum → Frame → Frame
  filled (o ∷ os) (v ∷ vs) frame = filled os vs (slots.with_first o v frame)
  filled _ vs frame = frame

  abbrev pub Sent : List LoadClause → List (Option ℕ) → Type 0
  Sent [] [] = Unit {0}
  Sent (c ∷ cs) (o ∷ os) = (o ≡ place c.local.name) × Sent cs os
  Sent _ _ = ⊥

  first_by : (env : Env) (frame : Frame) (name : Name) (v : Datum) (o : Option ℕ) → place name ≡ o → Reads place env frame
      → Reads place (if is_some o then bind env name v else env) (slots.with_first o v frame)
  first_by env frame name v None e reads = reads
  first_by env frame name v (Some k) e reads = reads_bind place env frame name k v (λ a b slot g h. one_place names a b slot g h) e reads

  first_reads : (env : Env) (frame : Frame) (name : Name) (v : Datum) (o : Option ℕ) → o ≡ place name → Reads place env frame → Reads place (named.with_first names name v env) (slots.with_first o v frame)
  first_reads env frame name v o e reads = rw (sym (has_place name names), e) (first_by env frame name v (place name) refl reads)

  pub clauses_read : (cs : List LoadClause) (os : List (Option ℕ)) → Sent cs os → (vs : List Datum) (env : Env) (frame : Frame) → Reads place env frame
      → Reads place (named.first_of_clauses names cs vs env) (filled os vs frame)
  unfolding named.first_of_clauses
  clauses_read [] [] h vs env frame reads = reads
  clauses_read (c ∷ cs) (o ∷ os) h [] env frame reads = reads
  clauses_read (c ∷ cs) (o ∷ os) h (v ∷ vs) env frame reads =
      clauses_read cs os h.1 vs (named.with_first names c.local.name v env) (slots.with_first o v frame) (first_reads env frame c.local.name v o h.0 reads)
  clauses_read [] (o ∷ os) h vs env frame reads = absurd h
  clauses_read (c ∷ cs) [] h vs env frame reads = absurd h

  -- ---- the file's globals

  abbrev pub global_places : List LoadedSymbol → List (Option ℕ)
  global_places [] = []
  global_places (x ∷ xs) = x.global ∷ global_places xs

  abbrev pub all_places : List LoadStmt → List (Option ℕ)
  all_places [] = []
  all_places (l ∷ ls) = global_places l.clauses ++ all_places ls

  none_left : (os : List (Option ℕ)) (frame : Frame) → filled os [] frame ≡ frame
  none_left [] frame = refl
  none_left (o ∷ os) frame = refl

  clause_places : (xs : List LoadedSymbol) (os : List (Option ℕ)) (vs : List Datum) (frame : Frame)
      → (let r = slots.first_of_clauses xs vs frame in filled os r.0 r.1) ≡ filled (global_places xs ++ os) vs frame
  clause_places [] os vs frame = refl
  clause_places (x ∷ xs) os [] frame = none_left os frame
  clause_places (x ∷ xs) os (v ∷ vs) frame = clause_places xs os vs (slots.with_first x.global v frame)

  pub globals_filled : (ls : List LoadStmt) (vs : List Datum) (frame : Frame) → slots.first_globals ls vs frame ≡ filled (all_places ls) vs frame
  unfolding slots.first_globals
  globals_filled [] vs frame = refl
  globals_filled (l ∷ ls) vs frame =
      let r = slots.first_of_clauses l.clauses vs frame in globals_filled ls r.0 r.1 ∙ clause_places l.clauses (all_places ls) vs frame

  -- ---- what loads bind: the values from a place on

  abbrev pub from : ℕ → List LoadClause → List (Option ℕ)
  from k [] = []
  from k (c ∷ cs) = Some k ∷ from (suc k) cs

  pub sent_from : (k : ℕ) (cs : List LoadClause) → PlacesFrom names k cs → Sent cs (from k cs)
  sent_from k [] h = tt
  sent_from k (c ∷ cs) h = (sym h.0, sent_from (suc k) cs h.1)

  other_slot : (frame : Frame) (slot other : ℕ) (v : Datum) → other ≢ slot → fill frame slot v other ≡ frame other
  unfolding fill
  other_slot frame slot other v h = go (other == slot) refl
    where
      go : (p : Bool) → (other == slot) ≡ p → (if p then Some v else frame other) ≡ frame other
      go true e = absurd (h (eqb-true other slot e))
      go false e = refl

  own_slot : (frame : Frame) (slot : ℕ) (v : Datum) → fill frame slot v slot ≡ Some v
  unfolding fill
  own_slot frame slot v = rw (eq-eqb slot slot refl) refl

  -- what comes before stays
  before_stays : (cs : List LoadClause) (k j : ℕ) (vs : List Datum) (frame : Frame) → j < k → filled (from k cs) vs frame j ≡ frame j
  before_stays [] k j vs frame h = refl
  before_stays (c ∷ cs) k j [] frame h = refl
  before_stays (c ∷ cs) k j (v ∷ vs) frame h =
      before_stays cs (suc k) j vs (fill frame k v) (omega arith) ∙ other_slot frame k j v (λ e. let no : ⊥ = omega arith in no)

  from_on : (cs : List LoadClause) (k i : ℕ) (vs : List Datum) (frame : Frame) → ((j : ℕ) → k ≤ j → frame j ≡ None) → i < length cs → filled (from k cs) vs frame (k + i) ≡ slice_get vs i
  from_on [] k i vs frame none h = absurd (omega arith)
  from_on (c ∷ cs) k i [] frame none h = none (k + i) (omega arith)
  from_on (c ∷ cs) k zero (v ∷ vs) frame none h =
      let at : k + 0 ≡ k = omega arith in
      ap (filled (from (suc k) cs) vs (fill frame k v)) at ∙ before_stays cs (suc k) k vs (fill frame k v) (omega arith) ∙ own_slot frame k v
  from_on (c ∷ cs) k (suc i) (v ∷ vs) frame none h =
      let at : k + suc i ≡ suc k + i = omega arith in
      ap (filled (from (suc k) cs) vs (fill frame k v)) at
      ∙ from_on cs (suc k) i vs (fill frame k v) (λ j l. other_slot frame k j v (λ e. let no : ⊥ = omega arith in no) ∙ none j (omega arith)) (omega arith)

  loaded_by : (cs : List LoadClause) (vs : List Datum) → length names ≡ length cs → (name : Name) (o : Option ℕ) → place name ≡ o → through (filled (from 0 cs) vs empty) o ≡ through (λ k. slice_get vs k) o
  unfolding empty
  loaded_by cs vs e name None at = refl
  loaded_by cs vs e name (Some k) at =
      let within : k < length names = place_within name names k at in
      ap (λ o. Some o) (ap (filled (from 0 cs) vs empty) (sym (zero-add k)) ∙ from_on cs 0 k vs empty (λ j l. refl) (omega arith))

  pub loaded_read : (cs : List LoadClause) (vs : List Datum) → length names ≡ length cs → PlacesFrom names 0 cs
      → Reads place (named.first_of_clauses names cs vs (declare outside names)) (λ k. slice_get vs k)
  loaded_read cs vs e places name =
      clauses_read cs (from 0 cs) (sent_from 0 cs places) vs (declare outside names) empty nothing_bound name ∙ loaded_by cs vs e name (place name) refl
