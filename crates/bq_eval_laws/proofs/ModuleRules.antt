-- A relation that respects the rules holds of files.
use Rattle.std.proofs.Common.{ℕ, List, [], ◌∷◌}
use Rattle.bq_parse_grammar.specs.declared.tree.Expr.{Expr}
use Rattle.bq_resolve_scope.specs.declared.file.Def.{Def}
use Rattle.bq_resolve_scope.specs.declared.file.FileLine.{FileLine}
use Rattle.bq_resolve_scope.specs.declared.file.Outside.{Outside}
use Rattle.bq_resolve_scope.specs.declared.file.ResolvedFile.{ResolvedFile}
use Rattle.bq_resolve_scope.specs.Names.{max_layers}
use Rattle.bq_resolve_scope.specs.declared.file.Outside.TheVariants as outside
use Rattle.bq_value.specs.Datum.{Datum, function, data_of}
use Rattle.bq_eval_spec.specs.Frame.{Frame, empty, Surroundings}
use Rattle.bq_eval_spec.specs.Primitives.{Primitives}
use Rattle.bq_eval_spec.specs.Statements.{Flow, next}
use Rattle.bq_eval_spec.specs.Calls.{Units, calls, max_active}
use Rattle.bq_eval_spec.specs.Module.{Own, with_own, def_stmt, outside_by, top_level, top_levels, eval_top, module_meaning}
use Rattle.bq_eval_spec.specs.Slots.{by_slots, own_of, first_globals}
use Rattle.bq_eval_spec.specs.Trees.{Eval}
use Rattle.bq_eval_spec.specs.Environment.{Scoping}
use Rattle.bq_eval_spec.specs.Slots as slots
use Rattle.bq_eval_laws.proofs.Anything.{Holds, each}
use Rattle.bq_eval_laws.proofs.Respects.{Relation, Respects, OfLines}
use Rattle.bq_eval_laws.proofs.ExpressionRules.{eval_rule, values_rule}
use Rattle.bq_eval_laws.proofs.StatementRules.{Ends, go_on_rule, line_rule}
use Rattle.bq_eval_laws.proofs.CallRules.{calls_rule}

module _ {S Round V : Type 0} (m : Primitives S) (scoping : Scoping Round V) (K : Relation S) (R : Respects m K) (own : Own Round V) where
  module _ (eval : Eval S V) (evals : (x : Expr) (env : V) → K Datum (eval x env) (eval x env)) where
    def_rule : (d : Def) → Ends m scoping K R (def_stmt m scoping own eval d) (def_stmt m scoping own eval d)
    unfolding def_stmt
    def_rule d globals =
        R.of_both _ _ _ _ _ _ (R.of_step 1)
        (λ _. R.of_both _ _ _ _ _ _ (values_rule m scoping K R Holds eval eval (λ x _. evals x) d.defaults (each Holds (λ _. tt) d.defaults) globals [])
        (λ vs. R.of_value (Flow × V) (next, scoping.bind globals d.name (function own.number d.function d.name.name (data_of vs)))))

    pub outside_rule : (x : Outside) → Ends m scoping K R (outside_by m scoping own eval x) (outside_by m scoping own eval x)
    outside_rule (outside.Simple xs) globals = line_rule m scoping K R eval evals xs globals
    outside_rule (outside.Def d) globals = def_rule d globals

    top_level_rule : OfLines m K → (l : FileLine) → Ends m scoping K R (top_level m scoping own eval l) (top_level m scoping own eval l)
    unfolding top_level
    top_level_rule lines l globals = R.of_both _ _ _ _ _ _ (lines l.line) (λ _. outside_rule l.statement globals)

    top_levels_rule : OfLines m K → (ls : List FileLine) → Ends m scoping K R (top_levels m scoping own eval ls) (top_levels m scoping own eval ls)
    unfolding top_levels
    top_levels_rule lines [] globals = R.of_value (Flow × V) (next, globals)
    top_levels_rule lines (l ∷ ls) globals =
        R.of_both _ _ _ _ _ _ (top_level_rule lines l globals)
        (λ r. go_on_rule m scoping K R (top_levels m scoping own eval ls) (top_levels m scoping own eval ls) (top_levels_rule lines ls) r)

  pub top_rule : (units : Units Round) (x : Expr) (globals : V) → K Datum (eval_top m scoping units own x globals) (eval_top m scoping units own x globals)
  unfolding eval_top
  top_rule units x globals =
      eval_rule m scoping K R (calls max_active m scoping (with_own units own globals)) (calls_rule m scoping K R max_active (with_own units own globals)) (own.round globals) max_layers x scoping.outside

  pub lines_rule : OfLines m K → (units : Units Round) (ls : List FileLine) (globals : V) → K V (module_meaning m scoping units own ls globals) (module_meaning m scoping units own ls globals)
  unfolding module_meaning
  lines_rule lines units ls globals =
      R.of_both _ _ _ _ _ _ (top_levels_rule (eval_top m scoping units own) (top_rule units) lines ls globals) (λ r. R.of_value V r.1)

-- of a file by slots
module _ {S : Type 0} (m : Primitives S) (K : Relation S) (R : Respects m K) where
  pub module_rule : OfLines m K → (units : Units Surroundings) (number : ℕ) (file : ResolvedFile) (loaded : List Datum)
      → K Frame (slots.module_meaning m units number file loaded) (slots.module_meaning m units number file loaded)
  unfolding slots.module_meaning
  module_rule lines units number file loaded = lines_rule m by_slots K R (own_of number file loaded) lines units file.statements (first_globals file.loads loaded empty)
