use Rattle.std.proofs.Common.{◌≡◌, ◌≤◌, ◌-◌, drop, length}
use Rattle.bq_run_commands.specs.Commands.{count_and_path}
use Rattle.bq_run_commands.proofs.commands.put_words.Given as goal

abbrev pub invariant-loop-at : goal.invariant-loop-at
invariant-loop-at l = record {
  within : l.at ≤ length l.text;
  left : count_and_path l.limit l.count (drop l.at l.text) ≡ count_and_path l.limit 0 l.text;
}

abbrev pub decreases-loop-at : goal.decreases-loop-at
decreases-loop-at l = length l.text - l.at
