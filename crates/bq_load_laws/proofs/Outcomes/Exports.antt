-- A module exports what its file binds.
use Rattle.std.proofs.Common.{◌≡◌, ◌≢◌, ◌∙◌, refl, sym, ap, Bool, true, false, cond, List, [], ◌∷◌, ◌++◌, length, Option, Some, None, Result, Ok, Err, inl, inr}
use Rattle.std.specs.Prelude.{bytes_eq, slice_get}
use Rattle.std.specs.List.{AllByRecursion}
use Rattle.std.proofs.lemmas.Bool.{false≢true}
use Rattle.std.proofs.lemmas.Slice.Eq.{bytes_eq-Decides}
use Rattle.bq_base.specs.declared.fault.LoadFault.{LoadFault}
use Rattle.bq_base.specs.declared.fault.LoadFault.TheVariants.{NoSymbol, PrivateSymbol}
use Rattle.bq_base.proofs.Choices.{by_bool}
use Rattle.bq_resolve_scope.specs.Names.{Name}
use Rattle.bq_resolve_scope.specs.declared.file.ResolvedFile.{ResolvedFile}
use Rattle.bq_value.specs.Datum.{Datum}
use Rattle.bq_load.specs.Imports.{value_named, globals_by, is_private, or_no_symbol, exported}
use Rattle.bq_load.specs.Views.{ModuleView}
use Rattle.bq_load_laws.specs.Outcomes.Exports.{IsNamed, ModulesExportTheirOwn}

same_some : {A : Type 0} (x y : A) → Some x ≡ Some y → x ≡ y
same_some x y e = cc

none_some : {A : Type 0} (x : A) → None ≡ Some x → ⊥
none_some x e = cc

-- ---- names with values

found_by : (name n : Name) (ns : List Name) (u : Datum) (us : List Datum) (v : Datum) (t : Bool) → bytes_eq name n ≡ t
    → (value_named name ns us ≡ Some v → IsNamed name ns us v) → cond t (Some u) (value_named name ns us) ≡ Some v → IsNamed name (n ∷ ns) (u ∷ us) v
found_by name n ns u us v true h later e =
    record { before = []; after = ns; names_are = ap (λ (x : Name). x ∷ ns) (sym ((bytes_eq-Decides name n).0 h)); first = tt; value = e }
found_by name n ns u us v false h later e =
    let r = later e in record {
      before = n ∷ r.before;
      after = r.after;
      names_are = ap (λ (xs : List Name). n ∷ xs) r.names_are;
      first = (λ same. false≢true (sym h ∙ (bytes_eq-Decides name n).1 (sym same)), r.first);
      value = r.value;
    }

found : (name : Name) (ns : List Name) (us : List Datum) (v : Datum) → value_named name ns us ≡ Some v → IsNamed name ns us v
unfolding value_named
found name [] us v e = absurd (none_some v e)
found name (n ∷ ns) [] v e = absurd (none_some v e)
found name (n ∷ ns) (u ∷ us) v e = found_by name n ns u us v (bytes_eq name n) refl (found name ns us v) e

is_false : (b : Bool) → (b ≡ true → ⊥) → b ≡ false
is_false true h = absurd (h refl)
is_false false h = refl

there : (name : Name) (before after : List Name) (us : List Datum) (v : Datum) → AllByRecursion (λ n. n ≢ name) before → slice_get us (length before) ≡ Some v
    → value_named name (before ++ name ∷ after) us ≡ Some v
unfolding value_named
there name [] after [] v h e = absurd (none_some v e)
there name [] after (u ∷ us) v h e = let t : bytes_eq name name ≡ true = (bytes_eq-Decides name name).1 refl in rw t e
there name (n ∷ ns) after [] v h e = absurd (none_some v e)
there name (n ∷ ns) after (u ∷ us) v h e =
    let t : bytes_eq name n ≡ false = is_false (bytes_eq name n) (λ same. h.0 (sym ((bytes_eq-Decides name n).0 same))) in
    rw t (there name ns after us v h.1 e)

-- ---- symbols

abbrev kept : Datum → Result Datum LoadFault
kept v = Ok v

no_value : (kind : LoadFault) (v : Datum) → Err kind ≡ kept v → ⊥
no_value kind v e = cc

same_value : (u v : Datum) → kept u ≡ kept v → u ≡ v
same_value u v e = cc

some_of : (o : Option Datum) (v : Datum) → or_no_symbol o ≡ Ok v → o ≡ Some v
some_of None v e = absurd (no_value NoSymbol v e)
some_of (Some u) v e = ap Some (same_value u v e)

module _ (resolved : List (Option ResolvedFile)) (m : ModuleView) (file : ResolvedFile) (name : Name) (v : Datum) (is : slice_get resolved m.frozen.own ≡ Some (Some file)) where
  of_file : value_named name (globals_by (slice_get resolved m.frozen.own)) m.frozen.cells.globals ≡ value_named name file.globals m.frozen.cells.globals
  of_file = ap (λ (o : Option (Option ResolvedFile)). value_named name (globals_by o) m.frozen.cells.globals) is

  own : exported resolved (Some m) name ≡ Ok v → (is_private name ≡ false) × IsNamed name file.globals m.frozen.cells.globals v
  unfolding exported
  own e = elim (by_bool (is_private name)) [
    | inl t ↦ absurd (no_value PrivateSymbol v (rw t at e))
    | inr t ↦ (t, found name file.globals m.frozen.cells.globals v (sym of_file ∙ some_of (value_named name (globals_by (slice_get resolved m.frozen.own)) m.frozen.cells.globals) v (rw t at e)))
  ]

  all : is_private name ≡ false → IsNamed name file.globals m.frozen.cells.globals v → exported resolved (Some m) name ≡ Ok v
  unfolding exported
  all public named =
      let value : value_named name file.globals m.frozen.cells.globals ≡ Some v =
      ap (λ ns. value_named name ns m.frozen.cells.globals) named.names_are ∙ there name named.before named.after m.frozen.cells.globals v named.first named.value in
      rw public (ap or_no_symbol (of_file ∙ value))

pub exports_its_own : ModulesExportTheirOwn
exports_its_own resolved m file name v is = record { own = own resolved m file name v is; all = all resolved m file name v is }
