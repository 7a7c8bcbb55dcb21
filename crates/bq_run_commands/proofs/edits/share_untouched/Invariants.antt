use Rattle.std.proofs.Common.{◌≡◌, ◌++◌, drop}
use Rattle.std.specs.List.{filter}
use Rattle.bq_run_commands.specs.Edits.{is_untouched}
use Rattle.bq_run_commands.proofs.edits.share_untouched.Given as goal

abbrev pub invariant-loop-file : goal.invariant-loop-file
invariant-loop-file l = l.left.items ++ filter (is_untouched l.paths) (drop l.file-index l.files) ≡ filter (is_untouched l.paths) l.files
