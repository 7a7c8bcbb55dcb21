-- The law of names for files.
use Rattle.std.proofs.Common.{◌≡◌, ◌<◌, ℕ, zero, suc, Bool, true, false, ◌==◌, List, [], ◌∷◌, length, take, drop, Option, Some, None, slice_get, Result, Ok, Err, refl, sym, ap, ◌∙◌, subst, arith}
use Rattle.std.specs.Prelude.{if◌then◌else◌}
use Rattle.bq_base.specs.declared.fault.NameFault.{NameFault}
use Rattle.bq_base.specs.declared.fault.Fault.{Fault}
use Rattle.bq_parse_grammar.specs.declared.tree.TopLevel.{TopLevel}
use Rattle.bq_resolve_scope.specs.declared.file.FileLine.{FileLine}
use Rattle.bq_resolve_scope.specs.declared.file.ResolvedFile.{ResolvedFile}
use Rattle.bq_resolve_scope.specs.Files.{file_names, top_level, resolved_by, resolved}
use Rattle.bq_resolve_scope.specs.Names.{Name, place_among, global_names, loaded_names}
use Rattle.bq_resolve_scope.specs.Scope.{FileParts}
use Rattle.bq_resolve_scope.specs.Statements as scope
use Rattle.bq_resolve_scope.specs.Universe.{UniverseParts}
use Rattle.bq_resolve_scope.specs.Visit.{Passed, each, nothing_passed}
use Rattle.bq_resolve_laws.specs.Resolution.{InOrder, Maybe}
use Rattle.bq_resolve_laws.specs.Violations.{nothing_before, violations}
use Rattle.bq_resolve_laws.proofs.FaultyFiles.{without_violations}
use Rattle.bq_resolve_laws.proofs.ResolvedFiles.{to_themselves}
use Rattle.bq_resolve_laws.proofs.Uses.{place_within}
use Rattle.bq_value.specs.Datum.{Datum}
use Rattle.bq_eval_spec.specs.Frame.{Frame, Surroundings, empty}
use Rattle.bq_eval_spec.specs.Primitives.{Primitives}
use Rattle.bq_eval_spec.specs.Calls.{Units, calls, max_active}
use Rattle.bq_eval_spec.specs.Module as language
use Rattle.bq_eval_spec.specs.Module.{Own}
use Rattle.bq_eval_spec.specs.Slots as slots
use Rattle.bq_eval_spec.specs.Slots.{by_slots}
use Rattle.bq_eval_spec.specs.Trees.{Eval}
use Rattle.bq_eval_spec.specs.Files.{functions_of, load_clauses}
use Rattle.bq_eval_spec.specs.ModuleByName as names
use Rattle.bq_eval_spec.specs.Names.{Env, Round, declare, outside, by_names}
use Rattle.bq_eval_by_name.specs.Alike.{Alike}
use Rattle.bq_eval_by_name.specs.Shows.{through, Reads}
use Rattle.bq_eval_by_name.proofs.ExpressionAgreement.{outside_agree}
use Rattle.bq_eval_by_name.proofs.Runs.{then_alike}
use Rattle.bq_eval_by_name.specs.StatementAgreement.{Ended, EvalsAgree, GlobalsShow}
use Rattle.bq_eval_by_name.proofs.StatementAgreement.{lines_agree}
use Rattle.bq_eval_by_name.specs.Units.{FunctionIs, UnitIs, UnitsAgree}
use Rattle.bq_eval_by_name.proofs.Called.{calls_agree}
use Rattle.bq_eval_by_name.proofs.Files.{TopsAre, tops_are, tops_add}
use Rattle.bq_eval_by_name.proofs.Fresh.{Fresh, PlacesFrom, names_are, all_fresh, places_are, length_is}
use Rattle.bq_eval_by_name.proofs.Loads.{nothing_bound, all_places, clauses_read, globals_filled, loaded_read}
use Rattle.bq_eval_by_name.proofs.Modules.{tops_alike}
use Rattle.bq_eval_by_name.proofs.LoadPlaces.{all_sent}

parts_by : (file : FileParts) (q : Result (List FileLine × Passed) (Fault NameFault)) (x : ResolvedFile) → resolved_by file q ≡ Ok x
    → (zs : List FileLine) × (v : Passed) × (q ≡ Ok (zs, v)) × (x ≡ record { statements = zs; functions = v.functions; globals = file.globals; loads = v.loads })
parts_by file (Err why) x e = absurd (let no : ⊥ = cc in no)
parts_by file (Ok p) x e =
    let made : ResolvedFile = record { statements = p.0; functions = p.1.functions; globals = file.globals; loads = p.1.loads } in
    let is : x ≡ made = cc in (p.0, p.1, refl, is)

-- of the first ones, the one at a place
of_first : {A : Type 0} (n : ℕ) (xs : List A) (k : ℕ) → k < n → slice_get (take n xs) k ≡ slice_get xs k
of_first zero xs k h = absurd (omega arith)
of_first (suc n) [] k h = refl
of_first (suc n) (x ∷ xs) zero h = refl
of_first (suc n) (x ∷ xs) (suc k) h = of_first n xs k (omega arith)

module _ (universe : UniverseParts) (ts : List TopLevel) where
  abbrev names_in : FileParts
  names_in = record { universe = universe; globals = global_names ts; loaded = loaded_names ts }

  module _ (r : ResolvedFile) (e : resolved universe ts ≡ Ok r) where
    -- the statements and functions of the file, from its walk
    abbrev Walk : Type 0
    Walk = (v : Passed) × TopsAre names_in nothing_passed ts r.statements v × (r.functions ≡ v.functions) × InOrder (FunctionIs names_in) (functions_of ts) r.functions

    walk_by : (zs : List FileLine) (v : Passed) → each (top_level names_in) [] ts nothing_passed ≡ Ok (zs, v) → r ≡ record { statements = zs; functions = v.functions; globals = global_names ts; loads = v.loads } → Walk
    walk_by zs v made is =
        let tops = tops_are names_in ts [] nothing_passed zs v made in
        let statements : r.statements ≡ tops.0 = ap (λ z. z.statements) is ∙ tops.2 in
        let added = tops_add names_in ts tops.0 nothing_passed v tops.1 in
        let functions : r.functions ≡ v.functions = ap (λ z. z.functions) is in (
          v,
          subst (λ ys. TopsAre names_in nothing_passed ts ys v) (sym statements) tops.1,
          functions,
          subst (λ fs. InOrder (FunctionIs names_in) (functions_of ts) fs) (sym (functions ∙ added.1)) added.2,
        )

    walk : Walk
    unfolding resolved file_names
    walk = let parts = parts_by names_in (each (top_level names_in) [] ts nothing_passed) r e in walk_by parts.0 parts.1 parts.2 parts.3

    fresh : Fresh [] (load_clauses ts)
    unfolding violations
    fresh = all_fresh (file_names universe ts) nothing_before ts ((without_violations universe ts).0 (r, e))

    loaded_reads : (vs : List Datum) → Reads (λ name. place_among name (loaded_names ts)) (names.loaded_values ts vs) (λ k. slice_get vs k)
    unfolding names.loaded_values
    loaded_reads vs =
        let cs = load_clauses ts in
        let count : length (loaded_names ts) ≡ length cs = ap length (names_are ts) ∙ length_is [] cs fresh ∙ omega arith in
        let places : PlacesFrom (loaded_names ts) 0 cs = subst (λ ns. PlacesFrom ns 0 cs) (sym (names_are ts)) (places_are [] cs fresh) in
        loaded_read (loaded_names ts) cs vs count places

    globals_read : (vs : List Datum) → Reads (λ name. place_among name (global_names ts)) (names.first_globals ts vs) (slots.first_globals r.loads vs empty)
    unfolding names.first_globals file_names
    globals_read vs =
        subst (λ frame. Reads (λ name. place_among name (global_names ts)) (names.first_of_clauses (global_names ts) (load_clauses ts) vs (declare outside (global_names ts))) frame)
        (sym (globals_filled (global_names ts) r.loads vs empty))
        (clauses_read (global_names ts) (load_clauses ts) (all_places (global_names ts) r.loads)
        (all_sent names_in 0 ts r.statements r.functions r.loads (to_themselves universe ts r e).0) vs (declare outside (global_names ts)) empty (nothing_bound (global_names ts)))

    globals_are : r.globals ≡ global_names ts
    globals_are = (to_themselves universe ts r e).1

    -- the file's own functions, with what is around them
    unit_is : (vs : List Datum) (env : Env) (frame loaded : Frame) → Reads (λ name. place_among name (global_names ts)) env frame
        → Reads (λ name. place_among name (loaded_names ts)) (names.loaded_values ts vs) loaded
        → UnitIs (names.frozen_unit universe ts vs env) (record { functions = r.functions; round = record { globals = frame; loaded = loaded } })
    unit_is vs env frame loaded reads read = record { file = names_in; functions = walk.3; round = record { globals = reads; loaded = read; universe = refl } }

    frozen_reads : (values : List Datum) (frame : Frame) → ((k : ℕ) → k < length r.globals → frame k ≡ slice_get values k) → (name : Name) (o : Option ℕ) → place_among name (global_names ts) ≡ o
        → through frame o ≡ through (λ k. slice_get (take (length r.globals) values) k) o
    frozen_reads values frame same name None at = refl
    frozen_reads values frame same name (Some k) at =
        let within : k < length r.globals = subst (λ n. k < n) (sym (ap length globals_are)) (place_within name (global_names ts) k at) in
        ap (λ o. Some o) (same k within ∙ sym (of_first (length r.globals) values k within))

    pub frozen_is : (globals : Env) (frame : Frame) (values : List Datum) → Reads (λ name. place_among name (global_names ts)) globals frame
        → ((k : ℕ) → k < length r.globals → frame k ≡ slice_get values k)
        → Maybe UnitIs (Some (names.frozen_unit universe ts (drop (length r.globals) values) globals)) (slots.frozen_unit (Some (Some r)) (Some values))
    frozen_is globals frame values reads same =
        unit_is (drop (length r.globals) values) globals (λ k. slice_get (take (length r.globals) values) k) (λ k. slice_get (drop (length r.globals) values) k)
        (λ name. reads name ∙ frozen_reads values frame same name (place_among name (global_names ts)) refl) (loaded_reads (drop (length r.globals) values))

    module _ {S : Type 0} (m : Primitives S) (named : Units Round) (units : Units Surroundings) (agree : UnitsAgree named units) (number : ℕ) (vs : List Datum) where
      abbrev own : Own Round Env
      own = names.own_of number universe ts vs

      abbrev other : Own Surroundings Frame
      other = slots.own_of number r vs

      own_by : (env : Env) (frame : Frame) → GlobalsShow names_in env frame → (t : Bool) (n : ℕ)
          → Maybe UnitIs (if t then Some (record { functions = own.functions; round = own.round env }) else named n)
          (if t then Some (record { functions = other.functions; round = other.round frame }) else units n)
      own_by env frame reads true n = unit_is vs env frame (λ k. slice_get vs k) reads (loaded_reads vs)
      own_by env frame reads false n = agree n

      own_agrees : (env : Env) (frame : Frame) → GlobalsShow names_in env frame → UnitsAgree (language.with_own named own env) (language.with_own units other frame)
      own_agrees env frame reads n = own_by env frame reads (n == number) n

      evals_agree : EvalsAgree names_in [] (GlobalsShow names_in) (language.eval_top m by_names named own) (language.eval_top m by_slots units other)
      unfolding scope.expr language.eval_top
      evals_agree x z p q below made env frame s reads =
          outside_agree m names_in (own.round env) (other.round frame) (calls max_active m by_names (language.with_own named own env)) (calls max_active m by_slots (language.with_own units other frame))
          (record { globals = reads; loaded = loaded_reads vs; universe = refl })
          (calls_agree m (language.with_own named own env) (language.with_own units other frame) (own_agrees env frame reads) max_active) x z p q made s

      pub module_alike : (s : S) → Alike (Reads (λ name. place_among name (global_names ts))) (names.module_meaning m named number universe ts vs s) (slots.module_meaning m units number r vs s)
      unfolding names.module_meaning language.module_meaning slots.module_meaning
      module_alike s =
          let eval : Eval S Env = language.eval_top m by_names named own in
          let slotted : Eval S Frame = language.eval_top m by_slots units other in
          then_alike (Ended (GlobalsShow names_in)) (GlobalsShow names_in) _ _ _ _
          (tops_alike m names_in own other eval slotted refl evals_agree (lines_agree m names_in eval slotted evals_agree) ts r.statements nothing_passed walk.0 walk.1
          (names.first_globals ts vs) (slots.first_globals r.loads vs empty) (globals_read vs) s) (λ a b z k. (refl, k.1))
