use Rattle.std.proofs.Common.{◌≡◌, ◌∙◌, true, sym, ap}
use Rattle.bq_package_values.specs.PlainNames.{is_plain_name}
use Rattle.bq_package_values.proofs.PlainNames.{plain_is_path, plain_label}
use Rattle.bq_package_values.proofs.label_texts.label.Goals as goal

pub own_label-requires : goal.own_label-requires
own_label-requires c = plain_is_path c.args.text.now (ap is_plain_name (sym c.as_slice.ensures) ∙ (sym c.is_plain_name.ensures ∙ c.if-is_plain_name.true))

pub returns-then-not-short_names_cross : goal.returns-then-not-short_names_cross
returns-then-not-short_names_cross c =
    let s = c.args.scope in
    let short = c.short_names_cross in
    let plain : is_plain_name c.args.text.now ≡ true = ap is_plain_name (sym c.as_slice.ensures) ∙ (sym c.is_plain_name.ensures ∙ c.if-is_plain_name.true) in
    plain_label s.own.now s.packages.now c.args.kind short.ensures.valid short.result short.ensures.cross c.if-not-short_names_cross.true c.args.text.now c.in_ok-own_label.field-0 plain c.in_ok-own_label.ensures
