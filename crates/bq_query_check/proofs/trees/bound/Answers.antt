use Rattle.std.proofs.Common.{ℕ, List, subst}
use Rattle.bq_query_check.specs.FormulaOf.{IsInnermost}
use Rattle.bq_query_check.proofs.Closed.{bound_holds}
use Rattle.bq_query_check.proofs.Says.{variable_says}
use Rattle.bq_query_check.proofs.trees.bound.Goals as goal

pub returns-in-Some : goal.returns-in-Some
returns-in-Some c =
    let k = c.in-Some.number in
    let h = subst (λ (name : List ℕ). IsInnermost c.args.names.now name k) c.as_slice.ensures c.in-Some.ensures in
    (bound_holds c.args.names.now c.args.name.now k h, (k, h, variable_says k))
