-- The labels that a target names, whether a target has them or not: whoever joins the facts of parts of a workspace finds its edges by them.
use Rattle.std.specs.Prelude.{List, []}
use Rattle.std.specs.declared.cmp.Ordering.{Ordering}
use Rattle.std.specs.Cmp.Lexicographic.{slice_cmp}
use Rattle.std.specs.Ordering.{nat_cmp, on}
use Rattle.bq_label.specs.Label.{LabelParts, full_form}
use Rattle.bq_label.specs.Order.{in_order}
use Rattle.bq_label_set.specs.Labels.{with_labels}
use Rattle.bq_package_target.specs.declared.target.Target.{Target}
use Rattle.bq_package_target.specs.Target.{dependencies}

-- labels by the bytes of their full forms
abbrev pub form_cmp : LabelParts → LabelParts → Ordering
form_cmp = on full_form (slice_cmp nat_cmp)

-- the labels of what a target depends on, in order, each once
unfoldable pub named_labels : Target → List LabelParts
named_labels t = in_order form_cmp (with_labels [] (dependencies t))
