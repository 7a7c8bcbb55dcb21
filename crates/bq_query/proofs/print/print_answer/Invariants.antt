use Rattle.std.proofs.Common.{◌≡◌, ◌++◌, drop}
use Rattle.bq_query.specs.Printed.{printed}
use Rattle.bq_query.proofs.print.print_answer.Given as goal

abbrev pub invariant-loop-at : goal.invariant-loop-at
invariant-loop-at l = l.text ++ printed l.form l.targets (drop l.at-index l.answer) ≡ printed l.form l.targets l.answer
