use Rattle.std.proofs.Common.{◌≡◌, length}
use Rattle.bq_base_texts.specs.FaultKinds.{first_called}
use Rattle.bq_run_explain.proofs.faults.first_called.Given as goal

abbrev pub invariant-loop-kinds : goal.invariant-loop-kinds
invariant-loop-kinds l = first_called l.word l.kinds ≡ first_called l.word l.initial.kinds

abbrev pub decreases-loop-kinds : goal.decreases-loop-kinds
decreases-loop-kinds l = length l.kinds
