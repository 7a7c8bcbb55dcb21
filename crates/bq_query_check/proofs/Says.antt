-- The formulas of checked queries, a case for each form.
use Rattle.std.proofs.Common.{◌≡◌, ℕ, List, map, rules}
use Rattle.bq_query_lex.specs.declared.pattern.TargetPattern.{TargetPattern}
use Rattle.bq_query_function.specs.declared.call.Call.{Call}
use Rattle.bq_query_function.specs.Calls.{of_one, of_two}
use Rattle.bq_query_check.specs.declared.formula.SetExpr.{SetExpr}
use Rattle.bq_query_check.specs.declared.formula.ChainStep.{ChainStep}
use Rattle.bq_query_check.specs.declared.formula.SetExpr.TheVariants as query
use Rattle.bq_query_check.specs.declared.formula.SetExpr.TheFolds.{the_lemmas}
use Rattle.bq_query_check.specs.Formula.{formula_of, step_of, chained, named, variable, let_in, one, two}

pub patterns_say : (patterns : List TargetPattern) → formula_of (query.Named patterns) ≡ named patterns
patterns_say patterns = search (rules, the_lemmas)

pub variable_says : (k : ℕ) → formula_of (query.Variable k) ≡ variable k
variable_says k = search (rules, the_lemmas)

pub let_says : (x y : SetExpr) → formula_of (query.Let x y) ≡ let_in (formula_of x) (formula_of y)
let_says x y = search (rules, the_lemmas)

pub chain_says : (x : SetExpr) (os : List ChainStep) → formula_of (query.Chain x os) ≡ chained (formula_of x) (map step_of os)
chain_says x os = search (rules, the_lemmas)

pub one_says : (call : Call) (x : SetExpr) → formula_of (query.One call x) ≡ one (of_one call) (formula_of x)
one_says call x = search (rules, the_lemmas)

pub two_says : (call : Call) (x y : SetExpr) → formula_of (query.Two call x y) ≡ two (of_two call) (formula_of x) (formula_of y)
two_says call x y = search (rules, the_lemmas)

pub step_says : (o : ChainStep) → step_of o ≡ record { operator = o.operator; formula = formula_of o.operand }
step_says o = search (rules, the_lemmas)
