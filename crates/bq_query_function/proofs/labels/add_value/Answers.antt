use Rattle.std.proofs.Common.{List, subst}
use Rattle.bq_label.specs.Label.{LabelParts}
use Rattle.bq_query_function.specs.Labels.{is_among}
use Rattle.bq_query_function.specs.Words.{Adds}
use Rattle.bq_query_function.proofs.labels.add_value.Goals as goal

pub returns : goal.returns
returns c =
    subst (λ (ls : List LabelParts). Adds (is_among ls) c.args.targets.now c.args.marks.now.items c.add_labels.new.marks.items) c.all_labels.ensures c.add_labels.ensures
