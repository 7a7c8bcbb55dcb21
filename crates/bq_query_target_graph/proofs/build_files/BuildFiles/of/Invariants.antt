use Rattle.std.proofs.Common.{◌≡◌, ◌++◌, drop}
use Rattle.bq_query_target_graph.specs.BuildFiles.{build_files}
use Rattle.bq_query_target_graph.proofs.build_files.BuildFiles.of.Given as goal

abbrev pub invariant-loop-package : goal.invariant-loop-package
invariant-loop-package l = l.files ++ build_files (drop l.package-index l.packages) ≡ build_files l.packages
