use Rattle.std.proofs.Common.{◌≡◌, ◌<◌, ◌+◌, ℕ, false, get_or}
use Rattle.bq_label.specs.declared.workspace.File.{File}
use Rattle.bq_label.specs.Workspace.{parts_at_file}
use Rattle.bq_label.proofs.workspace.are_apart.Given as goal

abbrev pub invariant-loop-at : goal.invariant-loop-at
invariant-loop-at l = (k : ℕ) (d : File) → k + 1 < l.at → parts_at_file l.files ((get_or l.files k d).path) ((get_or l.files (k + 1) d).path) ≡ false
