-- The laws of what decides: it is evaluated first, and then only what it chooses (Starlark specification, "Or and and", "Comprehensions",
-- "If statements").
use Rattle.std.specs.Prelude.{◌≡◌, List, ◌∷◌, true, false}
use Rattle.bq_parse_grammar.specs.declared.tree.Expr.{Expr}
use Rattle.bq_parse_grammar.specs.declared.tree.Branch.{Branch, out-Branch}
use Rattle.bq_parse_grammar.specs.declared.tree.Clause.{Clause, out-Clause}
use Rattle.bq_parse_grammar.specs.declared.tree.Stmt.{Stmt}
use Rattle.bq_parse_grammar.specs.declared.tree.TargetExpr.{TargetExpr}
use Rattle.bq_parse_grammar.specs.declared.tree.ComprehensionFrame.{ComprehensionFrame}
use Rattle.bq_parse_grammar.specs.declared.tree.Operator.TheVariants as operator
use Rattle.bq_value.specs.Contents.{Contents}
use Rattle.bq_value.specs.Datum.{Datum}
use Rattle.bq_builtin_machine.specs.Action.{Action, done, stopped, ◌>>=◌}
use Rattle.bq_builtin_machine.specs.State.{Stop}
use Rattle.bq_eval_spec.specs.Primitives.{Primitives}
use Rattle.bq_eval_spec.specs.Targets.{bind_variables}
use Rattle.bq_eval_spec.specs.Comprehensions.{Turn, turn, if_clause, clause_by, clauses, comprehension}
use Rattle.bq_eval_spec.specs.Expressions.{operation_by}
use Rattle.bq_eval_spec.specs.Statements.{Exec, block, branches}
use Rattle.bq_eval_spec.specs.Trees.{Eval}
use Rattle.bq_eval_spec.specs.Environment.{Scoping}

module _ {S R V : Type 0} (m : Primitives S) (scoping : Scoping R V) where
  -- The left operand has the value `v` in this state: where it decides, the right one is not evaluated, and the result is `v`.
  abbrev pub LeftSidesDecide : Type 0
  LeftSidesDecide =
      (eval : Eval S V) (env : V) (y : Expr) (v : Datum) (s : S)
      → (m.truth v s ≡ false → operation_by m eval operator.And y env v s ≡ done v s) × (m.truth v s ≡ true → operation_by m eval operator.And y env v s ≡ eval y env s)
      × (m.truth v s ≡ true → operation_by m eval operator.Or y env v s ≡ done v s) × (m.truth v s ≡ false → operation_by m eval operator.Or y env v s ≡ eval y env s)

  -- the condition of a branch, and then its block, or else the branches after it
  abbrev pub BranchConditionsFirst : Type 0
  BranchConditionsFirst =
      (eval : Eval S V) (run : Stmt → Exec S V) (env : V) (b : Branch) (bs : List Branch) (otherwise : List Stmt) (v : Datum) (s t : S)
      → eval (out-Branch b).condition env s ≡ done v t
      → (m.truth v t ≡ true → branches m scoping eval run (b ∷ bs) otherwise env s ≡ block m scoping eval run (out-Branch b).block env t)
      × (m.truth v t ≡ false → branches m scoping eval run (b ∷ bs) otherwise env s ≡ branches m scoping eval run bs otherwise env t)

  -- the condition of an `if` clause, and then what is in it, or else nothing
  abbrev pub FiltersFirst : Type 0
  FiltersFirst =
      (eval : Eval S V) (env : V) (x : Expr) (inner : Turn S V) (c : Contents) (v : Datum) (s t : S) → eval x env s ≡ done v t
      → (m.truth v t ≡ true → if_clause m scoping eval x inner env c s ≡ inner env c t) × (m.truth v t ≡ false → if_clause m scoping eval x inner env c s ≡ done (c, env) t)

  -- the variables of a `for` clause, and then what is in it
  abbrev pub VariablesFirst : Type 0
  VariablesFirst =
      (env new : V) (t : TargetExpr) (inner : Turn S V) (v : Datum) (c : Contents) (r s u : S) → m.step 1 r ≡ done tt s → bind_variables m scoping t v env s ≡ done new u
      → turn m scoping t inner v env c r ≡ inner new c u

  -- The first clause, with the others in it, and in the last one what is before them: where the first clause stops,
  -- nothing else is evaluated.
  abbrev pub ClausesFirst : Type 0
  ClausesFirst =
      (eval : Eval S V) (env : V) (first : Contents) (inner : Turn S V) (c : Clause) (cs : List Clause) (own : ComprehensionFrame) (r s : S) → m.step 1 r ≡ done tt s
      → (let begun : Action S (Contents × V) = clause_by m scoping eval (out-Clause c) env (clauses m scoping eval cs inner) (scoping.in_comprehension env (c ∷ cs) own) first in
      (comprehension m scoping eval first inner (c ∷ cs) own env r ≡ (begun >>= λ made. m.make made.0) s)
      × ((why : Stop) → begun s ≡ stopped why → comprehension m scoping eval first inner (c ∷ cs) own env r ≡ stopped why))
