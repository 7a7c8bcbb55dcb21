use Rattle.std.proofs.Common.{arith}
use Rattle.bq_value_dict.proofs.Empty.{inserted}
use Rattle.bq_value_dict.proofs.places.index_among.Goals as goal

pub returns-then-empty-at-clause-order : goal.returns-then-empty-at-clause-order
returns-then-empty-at-clause-order c =
    inserted c.args.index c.args.empty.now c.loop-at.at c.loop-at.invariant.within c.loop-at.invariant.before (λ less. omega (arith, c.if-empty-at.true))

pub returns-clause-order : goal.returns-clause-order
returns-clause-order c =
    inserted c.args.index c.args.empty.now c.loop-at.at c.loop-at.invariant.within c.loop-at.invariant.before (λ less. absurd (omega (arith, less, c.loop-at-test.false)))
