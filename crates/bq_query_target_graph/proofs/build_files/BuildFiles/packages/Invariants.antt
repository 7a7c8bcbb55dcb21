use Rattle.std.proofs.Common.{◌≡◌, ◌++◌, drop, map}
use Rattle.bq_label.specs.Label.{package_of}
use Rattle.bq_query_target_graph.proofs.build_files.BuildFiles.packages.Given as goal

abbrev pub invariant-loop-file : goal.invariant-loop-file
invariant-loop-file l = l.ids ++ map package_of (drop l.file-index l.files) ≡ map package_of l.files
