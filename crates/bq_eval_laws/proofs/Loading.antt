-- What the globals of a file begin with.
use Rattle.std.proofs.Common.{◌≡◌, ◌∙◌, ℕ, false, List, [], ◌∷◌, ◌++◌, length, slice_get, Option, Some, None, refl, sym, ap}
use Rattle.std.specs.Prelude.{if◌then◌else◌}
use Rattle.std.specs.List.{AllByRecursion, flat_map}
use Rattle.std.proofs.lemmas.Bool.Decides.{Decides-eqb}
use Rattle.bq_resolve_scope.specs.declared.loads.LoadStmt.{LoadStmt}
use Rattle.bq_resolve_scope.specs.declared.loads.LoadedSymbol.{LoadedSymbol}
use Rattle.bq_value.specs.Datum.{Datum}
use Rattle.bq_eval_spec.specs.Frame.{Frame, empty, fill}
use Rattle.bq_eval_spec.specs.Primitives.{Primitives}
use Rattle.bq_eval_spec.specs.Slots.{with_first, first_of_clauses, first_globals, module_meaning}
use Rattle.bq_eval_laws.specs.LoadedGlobals.{is_at, is_global, loaded_names, LoadedGlobalsBegin}

-- ---- all clauses as those of one load

none_left : (xs : List LoadedSymbol) (globals : Frame) → (first_of_clauses xs [] globals).1 ≡ globals
none_left [] globals = refl
none_left (x ∷ xs) globals = refl

both_loads : (xs ys : List LoadedSymbol) (vs : List Datum) (globals : Frame)
    → (first_of_clauses (xs ++ ys) vs globals).1 ≡ (first_of_clauses ys (first_of_clauses xs vs globals).0 (first_of_clauses xs vs globals).1).1
both_loads [] ys vs globals = refl
both_loads (x ∷ xs) ys [] globals = sym (none_left ys globals)
both_loads (x ∷ xs) ys (v ∷ vs) globals = both_loads xs ys vs (with_first x.global v globals)

as_one : (ls : List LoadStmt) (vs : List Datum) (globals : Frame) → first_globals ls vs globals ≡ (first_of_clauses (flat_map (λ (l : LoadStmt). l.clauses) ls) vs globals).1
unfolding first_globals
as_one [] vs globals = refl
as_one (l ∷ ls) vs globals =
    as_one ls (first_of_clauses l.clauses vs globals).0 (first_of_clauses l.clauses vs globals).1 ∙ sym (both_loads l.clauses (flat_map (λ (c : LoadStmt). c.clauses) ls) vs globals)

-- ---- one global

filled : (globals : Frame) (k : ℕ) (v : Datum) → fill globals k v k ≡ Some v
unfolding fill
filled globals k v = ap (λ b. if b then Some v else globals k) ((Decides-eqb k k).1 refl)

other_by : (o : Option ℕ) (k : ℕ) (v : Datum) (globals : Frame) → is_at k o ≡ false → with_first o v globals k ≡ globals k
unfolding fill
other_by None k v globals apart = refl
other_by (Some j) k v globals apart = ap (λ b. if b then Some v else globals k) apart

stays : (xs : List LoadedSymbol) (vs : List Datum) (globals : Frame) (k : ℕ) → AllByRecursion (λ y. is_global k y ≡ false) xs → (first_of_clauses xs vs globals).1 k ≡ globals k
stays [] vs globals k apart = refl
stays (x ∷ xs) [] globals k apart = refl
stays (x ∷ xs) (v ∷ vs) globals k apart = stays xs vs (with_first x.global v globals) k apart.1 ∙ other_by x.global k v globals apart.0

begins : (before : List LoadedSymbol) (x : LoadedSymbol) (after : List LoadedSymbol) (k : ℕ) (v : Datum) (vs : List Datum) (globals : Frame) → x.global ≡ Some k
    → AllByRecursion (λ y. is_global k y ≡ false) after → slice_get vs (length before) ≡ Some v → (first_of_clauses (before ++ x ∷ after) vs globals).1 k ≡ Some v
begins [] x after k v [] globals is apart at = absurd (let no : ⊥ = cc in no)
begins [] x after k v (w ∷ ws) globals is apart at =
    let same_value : Some w ≡ Some v = at in
    stays after ws (with_first x.global w globals) k apart ∙ (ap (λ o. with_first o w globals k) is ∙ (filled globals k w ∙ same_value))
begins (y ∷ ys) x after k v [] globals is apart at = absurd (let no : ⊥ = cc in no)
begins (y ∷ ys) x after k v (w ∷ ws) globals is apart at = begins ys x after k v ws (with_first y.global w globals) is apart at

pub loaded_globals : {S : Type 0} (m : Primitives S) → LoadedGlobalsBegin m
unfolding module_meaning empty
loaded_globals m units number file loaded =
    let globals : Frame = first_globals file.loads loaded empty in
    let one : globals ≡ (first_of_clauses (loaded_names file) loaded empty).1 = as_one file.loads loaded empty in (
      globals,
      record {
        loaded_ones = λ before after x k v among is apart at.
            ap (λ (f : Frame). f k) one ∙ (ap (λ xs. (first_of_clauses xs loaded empty).1 k) among ∙ begins before x after k v loaded empty is apart at);
        others = λ k apart. ap (λ (f : Frame). f k) one ∙ stays (loaded_names file) loaded empty k apart;
      },
      λ s. refl,
    )
