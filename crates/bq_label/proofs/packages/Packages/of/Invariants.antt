use Rattle.std.proofs.Common.{◌≡◌, take}
use Rattle.bq_label.specs.Workspace.{paths_of}
use Rattle.bq_label.specs.Packages.{build_files}
use Rattle.bq_label.proofs.packages.Packages.of.Given as goal

abbrev pub invariant-loop-file : goal.invariant-loop-file
invariant-loop-file l = l.found.items ≡ build_files (paths_of l.workspace) (paths_of (take l.file-index l.files))
