use Rattle.bq_package_values.specs.PlainLists.{is_plain}
use Rattle.bq_package_values.proofs.PlainNames.{passes_at}
use Rattle.bq_package_values.proofs.plain_lists.plain_labels.Goals as goal

pub plain_label-requires : goal.plain_label-requires
plain_label-requires c = passes_at is_plain c.args.values.now c.loop-value.value-index c.value-item.result c.requires c.loop-value-test.true c.value-item.is
