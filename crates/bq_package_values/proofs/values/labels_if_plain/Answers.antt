use Rattle.std.proofs.Common.{◌≡◌, ◌∙◌, true, sym}
use Rattle.std.specs.List.{list_all}
use Rattle.bq_package_values.specs.PlainLists.{is_plain}
use Rattle.bq_package_values.specs.Values.{AreLabelsOf}
use Rattle.bq_package_values.proofs.Steps.{of_some}
use Rattle.bq_package_values.proofs.PlainLists.{plain_list}
use Rattle.bq_package_values.proofs.values.labels_if_plain.Goals as goal

pub returns : goal.returns
returns c =
    let own = c.args.scope.own.now in
    let packages = c.args.scope.packages.now in
    let store = c.args.store.now in
    let value = c.args.value.now in
    let values = c.in-Ok.values.now in
    let labels = c.in_ok-plain_labels.field-0 in
    let short = c.short_names_cross in
    let plain : list_all is_plain values ≡ true = sym c.are_plain.ensures ∙ c.if-not-are_plain.false in
    of_some (AreLabelsOf own packages store value) labels (plain_list own packages short.ensures.valid short.result short.ensures.cross c.if-short_names_cross.false store value values labels c.in-Ok.ensures plain c.in_ok-plain_labels.ensures)
