use Rattle.std.proofs.Common.{◌∙◌, List, map, take, slice_get, sym, ap, subst}
use Rattle.std.specs.List.{IsDistinct}
use Rattle.bq_label.specs.Label.{LabelParts}
use Rattle.bq_label_set.specs.Labels.{same_label, with_labels}
use Rattle.bq_label_set.proofs.Added.{each_label_once}
use Rattle.bq_load_front.proofs.Places.{next_numbers, next_places, labels_named, are_named}
use Rattle.bq_load_front.proofs.named_files.NamedFiles.of.Goals as goal

pub loop-label-init : goal.loop-label-init
unfolding with_labels
loop-label-init c = record {
  numbers = c.new-numbers.ensures;
  same = c.new-files.ensures.items ∙ sym c.new-numbers.ensures;
  placed = ap (map (slice_get c.new-files.result.items)) c.in_ok-places.ensures.items;
}

pub add_file-requires-clause-distinct : goal.add_file-requires-clause-distinct
add_file-requires-clause-distinct c =
    subst (λ (z : List LabelParts). IsDistinct same_label z) (sym c.loop-label.invariant.numbers) (each_label_once (take c.loop-label.label-index c.args.labels.now))

pub loop-label-preserved : goal.loop-label-preserved
loop-label-preserved c =
    let l = c.loop-label in
    let labels = c.args.labels.now in
    let label = c.label-item.result in
    let now = c.add_file.new.files.items in record {
      numbers = next_numbers labels l.label-index label l.numbers c.add_file.new.numbers c.loop-label-test.true c.label-item.is l.invariant.numbers c.in_ok-add_file.ensures.added;
      same = c.in_ok-add_file.ensures.same;
      placed = ap (map (slice_get now)) c.in_ok-push.ensures.items
          ∙ next_places labels l.label-index label c.loop-label-test.true c.label-item.is l.files.items l.numbers now l.invariant.same (c.in_ok-add_file.ensures.same ∙ c.in_ok-add_file.ensures.added) l.places.items
          l.invariant.placed c.in_ok-add_file.field-0 c.in_ok-add_file.ensures.place;
    }

pub invariant_of-result : goal.invariant_of-result
invariant_of-result c =
    let l = c.loop-label in
    are_named c.args.labels.now l.label-index c.loop-label-test.false l.files.items l.numbers l.invariant.same l.invariant.numbers l.places.items l.invariant.placed

pub returns : goal.returns
returns c =
    let l = c.loop-label in
    labels_named c.args.labels.now l.label-index c.loop-label-test.false l.files.items l.numbers l.invariant.same l.invariant.numbers l.places.items l.invariant.placed
