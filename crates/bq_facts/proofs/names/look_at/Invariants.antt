use Rattle.std.proofs.Common.{take}
use Rattle.std.specs.List.{All}
use Rattle.bq_label.specs.Label.{IsLabel}
use Rattle.bq_facts.proofs.names.look_at.Given as goal

abbrev pub invariant-loop-label : goal.invariant-loop-label
invariant-loop-label l = All IsLabel (take l.label-index l.labels)
