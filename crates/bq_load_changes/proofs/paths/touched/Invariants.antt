use Rattle.std.proofs.Common.{[], take}
use Rattle.bq_label.specs.Workspace.{paths_of}
use Rattle.bq_load_changes.specs.Paths.{Follows}
use Rattle.bq_load_changes.proofs.paths.touched.Given as goal

abbrev pub invariant-loop-file : goal.invariant-loop-file
invariant-loop-file l = Follows l.packages [] l.touched.items (paths_of (take l.file-index l.files)) l.others l.left
