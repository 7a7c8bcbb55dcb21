use Rattle.std.proofs.Common.{◌≡◌, reverse, length}
use Rattle.bq_eval_spec.specs.Expressions.{unary_each}
use Rattle.bq_eval_rules.proofs.operators.unary_each.Given as goal

abbrev pub invariant-loop-rest : goal.invariant-loop-rest
invariant-loop-rest g l =
    let h = g.R.Runtime in
    unary_each h.means (reverse l.rest) l.value (h.seen l.runtime) ≡ unary_each h.means (reverse l.fn.operators) l.fn.value (h.seen l.fn.runtime)

abbrev pub decreases-loop-rest : goal.decreases-loop-rest
decreases-loop-rest g l = length l.rest
