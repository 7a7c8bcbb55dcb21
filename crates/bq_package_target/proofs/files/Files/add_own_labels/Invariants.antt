use Rattle.std.proofs.Common.{take}
use Rattle.bq_package_target.specs.Files.{FindsOwn}
use Rattle.bq_package_target.proofs.files.Files.add_own_labels.Given as goal

abbrev pub invariant-loop-label : goal.invariant-loop-label
invariant-loop-label l = FindsOwn l.own (take l.label-index l.labels) l.initial.self l.self
