use Rattle.std.proofs.Common.{take}
use Rattle.bq_package_target.specs.Value.{labels_in}
use Rattle.bq_package_target.specs.Files.{FindsOwn}
use Rattle.bq_package_target.proofs.files.Files.add_attributes.Given as goal

abbrev pub invariant-loop-given : goal.invariant-loop-given
invariant-loop-given l = FindsOwn l.own (labels_in (take l.given-index l.attributes)) l.initial.self l.self
