-- The values of globals, by names and by places.
use Rattle.std.proofs.Common.{◌≡◌, ℕ, suc, ◌+◌, Bool, true, false, ◌||◌, List, [], ◌∷◌, ◌++◌, length, drop, map, Option, Some, None, bytes_eq, slice_get, refl, sym, ap, ◌∙◌, arith}
use Rattle.std.specs.Prelude.{if◌then◌else◌}
use Rattle.std.specs.Option.{option_map}
use Rattle.std.proofs.lemmas.Slice.Eq.{bytes_eq-Decides}
use Rattle.bq_resolve_scope.specs.declared.file.ResolvedFile.{ResolvedFile}
use Rattle.bq_resolve_scope.specs.Names.{Name, has, place_among, global_names}
use Rattle.bq_value.specs.Datum.{Datum, or_none}
use Rattle.bq_eval_spec.specs.Frame.{Frame}
use Rattle.bq_eval_spec.specs.Names.{Env}
use Rattle.bq_eval_by_name.specs.Shows.{through, Reads}
use Rattle.bq_eval.specs.Module as by_slots
use Rattle.bq_eval.specs.Module.{values_from}
use Rattle.bq_eval_by_name.specs.EvaluationAgreement.{FrozenModulesKeepTheirGlobals}
use Rattle.bq_resolve_laws.specs.Files.{ParsedFile}
use Rattle.bq_eval_by_name.specs.Evaluation.{values_named, frozen_values}
use Rattle.bq_eval_by_name.proofs.Once.{globals_once}
use Rattle.bq_eval_by_name.proofs.Cases.{value_of}

-- ---- a frozen module's names are read through their places

abbrev in_place : List Datum → Frame
in_place vs = λ k. slice_get vs k

none_there : (o : Option ℕ) → through (in_place []) (option_map suc o) ≡ through (in_place []) o
none_there None = refl
none_there (Some k) = refl

next_there : (v : Datum) (vs : List Datum) (o : Option ℕ) → through (in_place (v ∷ vs)) (option_map suc o) ≡ through (in_place vs) o
next_there v vs None = refl
next_there v vs (Some k) = refl

without_by : (t : Bool) (o : Option ℕ) (rest : Option (Option Datum)) → rest ≡ through (in_place []) o → (if t then Some None else rest) ≡ through (in_place []) (if t then Some 0 else option_map suc o)
without_by true o rest e = refl
without_by false o rest e = e ∙ sym (none_there o)

with_by : (t : Bool) (v : Datum) (vs : List Datum) (o : Option ℕ) (rest : Option (Option Datum)) → rest ≡ through (in_place vs) o
    → (if t then Some (Some v) else rest) ≡ through (in_place (v ∷ vs)) (if t then Some 0 else option_map suc o)
with_by true v vs o rest e = refl
with_by false v vs o rest e = e ∙ sym (next_there v vs o)

pub named_reads : (names : List Name) (vs : List Datum) → Reads (λ name. place_among name names) (values_named names vs) (λ k. slice_get vs k)
unfolding values_named place_among
named_reads [] vs name = refl
named_reads (n ∷ ns) [] name = without_by (bytes_eq name n) (place_among name ns) (values_named ns [] name) (named_reads ns [] name)
named_reads (n ∷ ns) (v ∷ vs) name = with_by (bytes_eq name n) v vs (place_among name ns) (values_named ns vs name) (named_reads ns vs name)

-- ---- the values that a file ends with

-- these are at the places from `k` on
abbrev StandFrom : ℕ → List Name → List Name → Type 0
StandFrom k all names = (i : ℕ) (name : Name) → slice_get names i ≡ Some name → place_among name all ≡ Some (k + i)

values_same : (all : List Name) (k : ℕ) (names : List Name) → StandFrom k all names → (env : Env) (frame : Frame) → Reads (λ name. place_among name all) env frame
    → map (λ name. value_of (env name)) names ≡ values_from k names frame
values_same all k [] stand env frame reads = refl
values_same all k (x ∷ xs) stand env frame reads =
    let first : k + 0 ≡ k = omega arith in
    let at : place_among x all ≡ Some k = stand 0 x refl ∙ ap Some first in
    let head : value_of (env x) ≡ or_none (frame k) = ap value_of (reads x ∙ ap (through frame) at) in
    let rest : StandFrom (k + 1) all xs = λ i name e. (let next : k + suc i ≡ k + 1 + i = omega arith in stand (suc i) name e ∙ ap Some next) in
    ap (λ v. v ∷ map (λ name. value_of (env name)) xs) head ∙ ap (λ vs. or_none (frame k) ∷ vs) (values_same all (k + 1) xs rest env frame reads)

pub frozen_same : (file : ParsedFile) (resolved_file : ResolvedFile) → resolved_file.globals ≡ global_names file.statements → (imports : List Datum) (env : Env) (frame : Frame)
    → Reads (λ name. place_among name (global_names file.statements)) env frame → frozen_values file imports env ≡ by_slots.frozen_values resolved_file imports frame
unfolding frozen_values by_slots.frozen_values
frozen_same file resolved_file globals imports env frame reads =
    let stand : StandFrom 0 (global_names file.statements) (global_names file.statements) =
    λ i name e. (let same : i ≡ 0 + i = omega arith in globals_once file.statements i name e ∙ ap Some same) in
    ap (λ vs. vs ++ imports) (values_same (global_names file.statements) 0 (global_names file.statements) stand env frame reads
    ∙ ap (λ names. values_from 0 names frame) (sym globals))

-- ---- what a frozen module is read back as

back_by : (t : Bool) (w v : Datum) (rest : Option (Option Datum)) → (t ≡ true → w ≡ v) → (t ≡ false → rest ≡ Some (Some v)) → (if t then Some (Some w) else rest) ≡ Some (Some v)
back_by true w v rest here there = ap (λ z. Some (Some z)) (here refl)
back_by false w v rest here there = there refl

other_there : (a b : Bool) → a ≡ false → (a || b) ≡ true → b ≡ true
other_there true b e h = absurd (let no : ⊥ = cc in no)
other_there false b e h = h

-- a name that is bound has its value among the values of these names
read_back : (names : List Name) (vs : List Datum) (env : Env) (name : Name) (v : Datum) → has names name ≡ true → env name ≡ Some (Some v)
    → values_named names (map (λ n. value_of (env n)) names ++ vs) name ≡ Some (Some v)
unfolding values_named
read_back [] vs env name v h e = absurd (let no : ⊥ = cc in no)
read_back (n ∷ ns) vs env name v h e =
    back_by (bytes_eq name n) (value_of (env n)) v (values_named ns (map (λ m. value_of (env m)) ns ++ vs) name)
    (λ t. ap (λ m. value_of (env m)) (sym ((bytes_eq-Decides name n).0 t)) ∙ ap value_of e) (λ t. read_back ns vs env name v (other_there (bytes_eq name n) (has ns name) t h) e)

past_all : (names : List Name) (f : Name → Datum) (vs : List Datum) → drop (length names) (map f names ++ vs) ≡ vs
past_all [] f vs = refl
past_all (n ∷ ns) f vs = past_all ns f vs

pub frozen_keeps : FrozenModulesKeepTheirGlobals
unfolding frozen_values
frozen_keeps file imports env all =
    ((λ name h. (let bound = all name h in read_back (global_names file.statements) imports env name bound.0 h bound.1 ∙ sym bound.1)), past_all (global_names file.statements) (λ n. value_of (env n)) imports)
