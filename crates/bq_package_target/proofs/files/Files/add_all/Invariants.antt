use Rattle.std.proofs.Common.{take}
use Rattle.bq_package_target.specs.Files.{Finds}
use Rattle.bq_package_target.proofs.files.Files.add_all.Given as goal

abbrev pub invariant-loop-label : goal.invariant-loop-label
invariant-loop-label l = Finds l.line (take l.label-index l.labels) l.initial.self l.self
