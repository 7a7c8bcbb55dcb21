-- Loads give the same symbols where the files of the modules that they load are the same.
use Rattle.std.proofs.Common.{◌≡◌, ◌∙◌, ℕ, zero, suc, List, [], ◌∷◌, ◌++◌, Option, Some, None, Result, Ok, Err, Contains, slice_get, option_and_then, refl, ap, subst, if◌then◌else◌}
use Rattle.bq_base.specs.declared.fault.Fault.{Fault}
use Rattle.bq_base.specs.declared.fault.LoadFault.{LoadFault}
use Rattle.bq_base.specs.declared.fault.LoadFault.TheVariants as f
use Rattle.bq_label.specs.Label.{LabelParts}
use Rattle.bq_label.proofs.Orders.{at_head, in_tail}
use Rattle.bq_resolve_scope.specs.Names.{Name}
use Rattle.bq_resolve_scope.specs.declared.loads.LoadStmt.{LoadStmt}
use Rattle.bq_resolve_scope.specs.declared.loads.LoadedSymbol.{LoadedSymbol}
use Rattle.bq_resolve_scope.specs.declared.file.ResolvedFile.{ResolvedFile}
use Rattle.bq_value.specs.Datum.{Datum}
use Rattle.bq_load_front.specs.Resolved.{◌>>=◌}
use Rattle.bq_load_discover.specs.Edges.{number_in}
use Rattle.bq_load.specs.Views.{ModuleView}
use Rattle.bq_load.specs.Imports.{LoadedParts, module_named, value_named, globals_by, global_by, is_private, or_no_symbol, exported, at_symbol, clause_values, imports}

-- the module at a number is one of them
at_number : (vs : List ModuleView) (n : ℕ) (v : ModuleView) → slice_get vs n ≡ Some v → Contains vs v
at_number [] n v e = absurd (cc)
at_number (w ∷ ws) zero v e = let is : w ≡ v = cc in subst (λ (z : ModuleView). Contains (w ∷ ws) z) is (at_head w ws)
at_number (w ∷ ws) (suc n) v e = in_tail w ws v (at_number ws n v e)

-- one step after another
then_same : {A B : Type 0} (r : Result A (Fault LoadFault)) (go other : A → Result B (Fault LoadFault)) → ((x : A) → go x ≡ other x) → (r >>= go) ≡ (r >>= other)
then_same (Err why) go other e = refl
then_same (Ok x) go other e = e x

abbrev exported_by : Name → Option Datum → Result Datum LoadFault
exported_by name o = if is_private name then Err f.PrivateSymbol else or_no_symbol o

module _ (resolved others : List (Option ResolvedFile)) where
  -- the module has the same file in both lists
  abbrev pub HasSameFile : ModuleView → Type 0
  HasSameFile v = slice_get resolved v.frozen.own ≡ slice_get others v.frozen.own

  -- the symbols of a module
  module _ (o : Option ModuleView) (same : (v : ModuleView) → o ≡ Some v → HasSameFile v) where
    global_same : (name : Name) → global_by resolved o name ≡ global_by others o name
    global_same name = by_module o same
      where
        by_module : (z : Option ModuleView) → ((v : ModuleView) → z ≡ Some v → HasSameFile v) → global_by resolved z name ≡ global_by others z name
        by_module None h = refl
        by_module (Some v) h = ap (λ (z : Option (Option ResolvedFile)). value_named name (globals_by z) v.frozen.cells.globals) (h v refl)

    exported_same : (name : Name) → exported resolved o name ≡ exported others o name
    unfolding exported
    exported_same name = ap (exported_by name) (global_same name)

    clauses_same : (line : ℕ) (done : List Datum) (cs : List LoadedSymbol) → clause_values resolved o line done cs ≡ clause_values others o line done cs
    unfolding clause_values
    clauses_same line done [] = refl
    clauses_same line done (c ∷ cs) =
        ap (λ (r : Result Datum LoadFault). at_symbol line c.symbol r >>= λ v. clause_values resolved o line (done ++ v ∷ []) cs) (exported_same c.symbol)
        ∙ then_same (at_symbol line c.symbol (exported others o c.symbol)) (λ v. clause_values resolved o line (done ++ v ∷ []) cs) (λ v. clause_values others o line (done ++ v ∷ []) cs) (λ v. clauses_same line (done ++ v ∷ []) cs)

  -- the symbols of all loads of a file
  module _ (files : List LabelParts) (modules : List ModuleView) (same : (v : ModuleView) → Contains modules v → HasSameFile v) where
    abbrev before : LoadedParts
    before = record { files = files; modules = modules; resolved = resolved }

    abbrev after : LoadedParts
    after = record { files = files; modules = modules; resolved = others }

    by_number : (n : Option ℕ) (v : ModuleView) → option_and_then (slice_get modules) n ≡ Some v → HasSameFile v
    by_number None v e = absurd (cc)
    by_number (Some n) v e = same v (at_number modules n v e)

    named_same : (l : LabelParts) (v : ModuleView) → module_named before l ≡ Some v → HasSameFile v
    unfolding module_named
    named_same l v e = by_number (number_in files l) v e

    one_module : (l : LabelParts) → module_named before l ≡ module_named after l
    unfolding module_named
    one_module l = refl

    load_same : (l : LabelParts) (line : ℕ) (done : List Datum) (cs : List LoadedSymbol) → clause_values resolved (module_named before l) line done cs ≡ clause_values others (module_named after l) line done cs
    load_same l line done cs =
        clauses_same (module_named before l) (named_same l) line done cs ∙ ap (λ (o : Option ModuleView). clause_values others o line done cs) (one_module l)

    pub imports_same : (done : List Datum) (ss : List LoadStmt) (ls : List LabelParts) → imports before done ss ls ≡ imports after done ss ls
    unfolding imports
    imports_same done [] ls = refl
    imports_same done (s ∷ ss) [] = refl
    imports_same done (s ∷ ss) (l ∷ ls) =
        ap (λ (r : Result (List Datum) (Fault LoadFault)). r >>= λ vs. imports before vs ss ls) (load_same l s.line done s.clauses)
        ∙ then_same (clause_values others (module_named after l) s.line done s.clauses) (λ vs. imports before vs ss ls) (λ vs. imports after vs ss ls) (λ vs. imports_same vs ss ls)
