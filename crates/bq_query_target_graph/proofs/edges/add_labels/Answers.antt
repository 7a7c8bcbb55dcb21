use Rattle.std.proofs.Common.{◌∙◌, position, refl, sym}
use Rattle.std.specs.Option.{option_copied}
use Rattle.bq_label.specs.Label.{LabelParts}
use Rattle.bq_label_set.specs.Labels.{same_label, has_label}
use Rattle.bq_query_target_graph.specs.BuildFiles.{file_of}
use Rattle.bq_query_target_graph.specs.Edges.{number_by}
use Rattle.bq_query_target_graph.specs.Dangling.{dangling}
use Rattle.bq_query_target_graph.proofs.Repeats.{passed_over, taken_in, all_taken}
use Rattle.bq_query_target_graph.proofs.edges.add_labels.Goals as goal

pub loop-label-init : goal.loop-label-init
loop-label-init c = record { row = refl; lines = refl }

pub loop-label-preserved-then-repeats : goal.loop-label-preserved-then-repeats
loop-label-preserved-then-repeats c =
    let l = c.loop-label in
    let s = c.args.source in
    let before = option_copied l.before in
    let e = λ (a : LabelParts). number_by (position (same_label a) s.labels.now) in
    let f = dangling (has_label s.labels.now) (file_of s.files.now s.target.now.label) s.target.now.line in
    let same = sym c.repeats.ensures ∙ c.if-repeats.true in
    record {
      row = passed_over e before c.args.named.now l.label-index c.label-item.result l.row.items _ c.loop-label-test.true c.label-item.is same l.invariant.row;
      lines = passed_over f before c.args.named.now l.label-index c.label-item.result l.lines.items _ c.loop-label-test.true c.label-item.is same l.invariant.lines;
    }

pub loop-label-preserved : goal.loop-label-preserved
loop-label-preserved c =
    let l = c.loop-label in
    let s = c.args.source in
    let before = option_copied l.before in
    let added = c.in_ok-add_label.ensures in
    let e = λ (a : LabelParts). number_by (position (same_label a) s.labels.now) in
    let f = dangling (has_label s.labels.now) (file_of s.files.now s.target.now.label) s.target.now.line in
    let other = sym c.repeats.ensures ∙ c.if-repeats.false in
    record {
      row = taken_in e before c.args.named.now l.label-index c.label-item.result l.row.items c.add_label.new.row.items _ c.loop-label-test.true c.label-item.is other l.invariant.row added.row;
      lines = taken_in f before c.args.named.now l.label-index c.label-item.result l.lines.items c.add_label.new.lines.items _ c.loop-label-test.true c.label-item.is other l.invariant.lines added.lines;
    }

pub returns : goal.returns
returns c =
    let l = c.loop-label in
    let s = c.args.source in
    let before = option_copied l.before in
    let e = λ (a : LabelParts). number_by (position (same_label a) s.labels.now) in
    let f = dangling (has_label s.labels.now) (file_of s.files.now s.target.now.label) s.target.now.line in
    record {
      row = all_taken e before c.args.named.now l.label-index l.row.items _ c.loop-label-test.false l.invariant.row;
      lines = all_taken f before c.args.named.now l.label-index l.lines.items _ c.loop-label-test.false l.invariant.lines;
    }
