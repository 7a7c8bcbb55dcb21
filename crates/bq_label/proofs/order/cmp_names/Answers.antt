use Rattle.std.proofs.Common.{◌∙◌}
use Rattle.bq_label.proofs.FullForms.{plain_package}
use Rattle.bq_label.proofs.order.cmp_names.Goals as goal

pub cmp_ended-by_package-requires-clause-plain_a : goal.cmp_ended-by_package-requires-clause-plain_a
cmp_ended-by_package-requires-clause-plain_a c = plain_package c.args.a.now _ c.package.ensures.valid (c.as_slice.ensures ∙ c.package.ensures.value)

pub cmp_ended-by_package-requires-clause-plain_b : goal.cmp_ended-by_package-requires-clause-plain_b
cmp_ended-by_package-requires-clause-plain_b c = plain_package c.args.b.now _ c.package-2.ensures.valid (c.as_slice-2.ensures ∙ c.package-2.ensures.value)
