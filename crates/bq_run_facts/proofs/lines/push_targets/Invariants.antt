use Rattle.std.proofs.Common.{◌≡◌, ◌++◌, drop}
use Rattle.bq_run_facts.specs.Lines.{target_lines}
use Rattle.bq_run_facts.proofs.lines.push_targets.Given as goal

abbrev pub invariant-loop-at : goal.invariant-loop-at
invariant-loop-at l = l.text ++ target_lines l.packages l.graph (drop l.at-index l.numbers) ≡ l.initial.text ++ target_lines l.packages l.graph l.numbers
