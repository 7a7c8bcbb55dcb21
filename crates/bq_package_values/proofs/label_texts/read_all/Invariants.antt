use Rattle.std.proofs.Common.{◌≡◌, drop}
use Rattle.std.specs.Option.{ForSome}
use Rattle.bq_package_values.specs.Steps.{in_turn}
use Rattle.bq_package_values.specs.LabelTexts.{read, IsReadLast, read_all}
use Rattle.bq_package_values.proofs.label_texts.read_all.Given as goal

abbrev pub invariant-loop-text : goal.invariant-loop-text
invariant-loop-text l =
    (read_all l.own l.kind l.texts ≡ in_turn (read l.own l.kind) l.labels.items (drop l.text-index l.texts))
    × ForSome l.before (λ b. IsReadLast l.own l.kind b.now l.labels.items)
