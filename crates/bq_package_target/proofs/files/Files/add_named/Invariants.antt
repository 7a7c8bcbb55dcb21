use Rattle.std.proofs.Common.{take}
use Rattle.std.specs.List.{flat_map}
use Rattle.bq_package_target.specs.Value.{labels_in}
use Rattle.bq_package_target.specs.Files.{FindsOwn}
use Rattle.bq_package_target.proofs.files.Files.add_named.Given as goal

abbrev pub invariant-loop-target : goal.invariant-loop-target
invariant-loop-target l = FindsOwn l.own (flat_map (λ t. labels_in t.attributes) (take l.target-index l.targets)) l.initial.self l.self
