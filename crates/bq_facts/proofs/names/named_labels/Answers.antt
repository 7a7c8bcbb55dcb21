use Rattle.std.proofs.Common.{◌∙◌, List, subst}
use Rattle.std.specs.List.{All}
use Rattle.std.specs.List.Sorted.{IsPermutation}
use Rattle.bq_label.specs.Label.{IsLabel, LabelParts}
use Rattle.bq_facts.proofs.NamedLabels.{named_labels_of}
use Rattle.bq_facts.proofs.names.named_labels.Goals as goal

pub returns : goal.returns
returns c =
    let sorted = c.sort_unstable.new.self.items in
    let named = c.in_ok-labels.ensures in
    let valid = subst (λ (ls : List LabelParts). All IsLabel ls) (c.deref.ensures.value ∙ named) c.look_at.ensures in
    let moved = subst (λ (ls : List LabelParts). IsPermutation ls sorted) named c.sort_unstable.ensures.permutation in
    named_labels_of c.args.target.now sorted valid moved c.dedup.new.self.items c.sort_unstable.ensures.sorted c.dedup.ensures.filtered
