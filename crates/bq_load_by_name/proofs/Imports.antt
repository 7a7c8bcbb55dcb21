-- A file gets by names what it gets by slots of the modules that it loads.
use Rattle.std.proofs.Common.{◌≡◌, ℕ, List, [], ◌∷◌, ◌++◌, map, Option, Some, None, Err, slice_get, refl, sym, ap}
use Rattle.std.specs.Prelude.{if◌then◌else◌}
use Rattle.bq_base.specs.declared.fault.LoadFault.TheVariants as f
use Rattle.bq_label.specs.Label.{LabelParts}
use Rattle.bq_resolve_scope.specs.Names.{Name}
use Rattle.bq_resolve_scope.specs.declared.loads.LoadStmt.{LoadStmt}
use Rattle.bq_resolve_scope.specs.declared.loads.LoadedSymbol.{LoadedSymbol}
use Rattle.bq_resolve_scope.specs.declared.file.ResolvedFile.{ResolvedFile}
use Rattle.bq_resolve_laws.specs.Files.{ParsedFile, ResolvesTo}
use Rattle.bq_resolve_laws.specs.Loads.{written_load}
use Rattle.bq_resolve_laws.specs.Resolution.{Maybe}
use Rattle.bq_resolve_laws.proofs.Loads.{globals_kept}
use Rattle.bq_value.specs.Datum.{Datum}
use Rattle.bq_load_front.specs.Resolved.{◌>>=◌}
use Rattle.bq_load.specs.Imports as slots
use Rattle.bq_load.specs.Imports.{value_named, is_private, or_no_symbol, at_symbol}
use Rattle.bq_load.specs.Views.{ModuleView}
use Rattle.bq_eval_by_name.specs.EvaluationAgreement.{AllResolveTo}
use Rattle.bq_eval_by_name.proofs.Units.{in_place}
use Rattle.bq_load_by_name.specs.Imports.{LoadedParts, module_named, global_by, exported, symbol_values, imports}
use Rattle.bq_load_by_name.proofs.Cases.{globals_by}

globals_same : (x : Option (Option ParsedFile)) (c : Option (Option ResolvedFile)) → Maybe (Maybe ResolvesTo) x c → globals_by x ≡ slots.globals_by c
globals_same None None h = refl
globals_same None (Some c) h = absurd h
globals_same (Some x) None h = absurd h
globals_same (Some None) (Some None) h = refl
globals_same (Some None) (Some (Some c)) h = absurd h
globals_same (Some (Some x)) (Some None) h = absurd h
globals_same (Some (Some x)) (Some (Some c)) h = sym (globals_kept x c h)

module _ (parsed : List (Option ParsedFile)) (resolved : List (Option ResolvedFile)) (are : AllResolveTo parsed resolved) where
  global_same : (m : Option ModuleView) (name : Name) → global_by parsed m name ≡ slots.global_by resolved m name
  global_same None name = refl
  global_same (Some m) name =
      ap (λ names. value_named name names m.frozen.cells.globals)
      (globals_same (slice_get parsed m.frozen.own) (slice_get resolved m.frozen.own) (in_place (Maybe ResolvesTo) parsed resolved m.frozen.own are))

  exported_same : (m : Option ModuleView) (name : Name) → exported parsed m name ≡ slots.exported resolved m name
  unfolding exported slots.exported
  exported_same m name = ap (λ o. if is_private name then Err f.PrivateSymbol else or_no_symbol o) (global_same m name)

  values_same : (m : Option ModuleView) (line : ℕ) (done : List Datum) (cs : List LoadedSymbol)
      → symbol_values parsed m line done (map (λ c. c.symbol) cs) ≡ slots.clause_values resolved m line done cs
  unfolding symbol_values slots.clause_values
  values_same m line done [] = refl
  values_same m line done (c ∷ cs) =
      λ i. at_symbol line c.symbol (exported_same m c.symbol i) >>= λ v. values_same m line (done ++ v ∷ []) cs i

  abbrev by_names : List LabelParts → List ModuleView → LoadedParts
  by_names files modules = record { files = files; modules = modules; parsed = parsed }

  abbrev by_slots : List LabelParts → List ModuleView → slots.LoadedParts
  by_slots files modules = record { files = files; modules = modules; resolved = resolved }

  pub imports_same : (files : List LabelParts) (modules : List ModuleView) (done : List Datum) (ss : List LoadStmt) (ls : List LabelParts)
      → imports (by_names files modules) done (map written_load ss) ls ≡ slots.imports (by_slots files modules) done ss ls
  unfolding imports slots.imports module_named slots.module_named
  imports_same files modules done [] ls = refl
  imports_same files modules done (s ∷ ss) [] = refl
  imports_same files modules done (s ∷ ss) (l ∷ ls) =
      λ i. values_same (module_named (by_names files modules) l) s.line done s.clauses i >>= λ vs. imports_same files modules vs ss ls i
