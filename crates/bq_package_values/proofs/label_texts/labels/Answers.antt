use Rattle.std.proofs.Common.{◌∙◌, sym}
use Rattle.bq_package_values.proofs.PlainNames.{plain_labels}
use Rattle.bq_package_values.proofs.label_texts.labels.Goals as goal

pub returns-then-not-short_names_cross : goal.returns-then-not-short_names_cross
returns-then-not-short_names_cross c =
    let s = c.args.scope in
    let short = c.short_names_cross in
    plain_labels s.own.now s.packages.now c.args.kind short.ensures.valid short.result short.ensures.cross c.if-not-short_names_cross.true c.args.texts.now c.in_ok-own_labels.field-0 (sym c.are_plain_names.ensures ∙ c.if-are_plain_names.true) c.in_ok-own_labels.ensures
