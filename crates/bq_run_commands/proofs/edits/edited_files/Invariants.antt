-- the edits before this one, then those at other paths than the later ones are about, and then what those put
use Rattle.std.proofs.Common.{◌≡◌, ◌++◌, reverse, take}
use Rattle.std.specs.List.{filter}
use Rattle.bq_run_commands.specs.Edits.{edited, is_untouched}
use Rattle.bq_run_commands.proofs.edits.edited_files.Given as goal

abbrev pub invariant-loop-i : goal.invariant-loop-i
invariant-loop-i l = edited l.workspace l.edits ≡ filter (is_untouched l.later) (edited l.workspace (take l.i l.edits)) ++ reverse l.puts.items
