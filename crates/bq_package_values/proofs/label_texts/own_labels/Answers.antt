use Rattle.bq_package_values.proofs.PlainNames.{plain_at}
use Rattle.bq_package_values.proofs.label_texts.own_labels.Goals as goal

pub own_label-requires : goal.own_label-requires
own_label-requires c = plain_at c.args.names.now c.loop-name.name-index c.name-item.result c.requires c.loop-name-test.true c.name-item.is
