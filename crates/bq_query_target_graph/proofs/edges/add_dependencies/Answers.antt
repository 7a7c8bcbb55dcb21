use Rattle.std.proofs.Common.{◌∙◌, ◌++◌, None, position, append-nil, ap, sym}
use Rattle.std.specs.List.{flat_map}
use Rattle.bq_label.specs.Label.{LabelParts}
use Rattle.bq_value_datum.specs.AttributeValue.{labels_of}
use Rattle.bq_label_set.specs.Labels.{same_label, has_label}
use Rattle.bq_query_target_graph.specs.BuildFiles.{file_of}
use Rattle.bq_query_target_graph.specs.Edges.{unrepeated, number_by, numbers_of}
use Rattle.bq_query_target_graph.specs.Dangling.{dangling}
use Rattle.bq_query_target_graph.proofs.Lists.{given_each}
use Rattle.bq_query_target_graph.proofs.edges.add_dependencies.Goals as goal

pub loop-given-init : goal.loop-given-init
loop-given-init c = record { row = sym (append-nil c.args.row.now.items); lines = sym (append-nil c.args.lines.now.items) }

pub loop-given-preserved : goal.loop-given-preserved
loop-given-preserved c =
    let l = c.loop-given in
    let s = c.args.source in
    let all = c.as_slice-attributes.result.now in
    let given = c.given-item.result in
    let added = c.in_ok-add_labels.ensures in
    let e = λ (a : LabelParts). number_by (position (same_label a) s.labels.now) in
    let f = dangling (has_label s.labels.now) (file_of s.files.now s.target.now.label) s.target.now.line in
    record {
      row = given_each e (λ a. unrepeated None (labels_of a.value)) all l.given-index given c.args.row.now.items l.row.items c.add_labels.new.row.items c.loop-given-test.true c.given-item.is l.invariant.row
          (added.row ∙ ap (λ ls. l.row.items ++ numbers_of s.labels.now (unrepeated None ls)) c.labels.ensures);
      lines = given_each f (λ a. unrepeated None (labels_of a.value)) all l.given-index given c.args.lines.now.items l.lines.items c.add_labels.new.lines.items c.loop-given-test.true c.given-item.is l.invariant.lines
          (added.lines ∙ ap (λ ls. l.lines.items ++ flat_map f (unrepeated None ls)) c.labels.ensures);
    }
