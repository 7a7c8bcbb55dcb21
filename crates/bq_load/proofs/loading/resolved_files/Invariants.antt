use Rattle.std.proofs.Common.{◌≡◌, ◌++◌, drop}
use Rattle.bq_load_module.specs.Round.{lent_files}
use Rattle.bq_load.specs.ResolvedFiles.{resolved_files}
use Rattle.bq_load.proofs.loading.resolved_files.Given as goal

abbrev pub invariant-loop-each : goal.invariant-loop-each
invariant-loop-each l = lent_files l.resolved.items ++ resolved_files (drop l.each-index l.modules) ≡ resolved_files l.modules
