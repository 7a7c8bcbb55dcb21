use Rattle.std.proofs.Common.{[], take}
use Rattle.bq_label.specs.Workspace.{paths_of}
use Rattle.bq_load_changes.specs.Paths.{Notes}
use Rattle.bq_load_changes.proofs.paths.note_all.Given as goal

abbrev pub invariant-loop-file : goal.invariant-loop-file
invariant-loop-file l = Notes l.packages l.fn.touched.items l.touched.items (paths_of (take l.file-index l.files)) []
