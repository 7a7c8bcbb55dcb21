use Rattle.std.proofs.Common.{◌≡◌, ◌++◌}
use Rattle.bq_run_facts.specs.Lines.{fault_objects}
use Rattle.bq_run_facts.proofs.lines.push_faults.Given as goal

abbrev pub invariant-loop-line : goal.invariant-loop-line
invariant-loop-line l = l.text ++ fault_objects l.line-iterator ≡ l.initial.text ++ fault_objects l.faults
