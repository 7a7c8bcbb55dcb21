use Rattle.std.proofs.Common.{◌≡◌, drop}
use Rattle.bq_load_order.specs.Again.{are_same}
use Rattle.bq_load_order.proofs.same.are_same.Given as goal

abbrev pub invariant-loop-l : goal.invariant-loop-l
invariant-loop-l l = are_same l.kept (drop l.l-index l.loads) l.left ≡ are_same l.kept l.loads l.numbers
