use Rattle.std.proofs.Common.{◌∙◌, ap}
use Rattle.std.proofs.lemmas.List.{take_all}
use Rattle.std.specs.List.{filter_map}
use Rattle.bq_load_discover.specs.Edges.{number_in}
use Rattle.bq_load_discover.proofs.Rows.{row_next}
use Rattle.bq_load_discover.proofs.edges.row.Goals as goal

pub loop-label-preserved : goal.loop-label-preserved
loop-label-preserved c =
    let l = c.loop-label in
    row_next c.args.numbers.now c.args.labels.now l.label-index c.label-item.result l.row.items c.add_number.new.row.items c.loop-label-test.true c.label-item.is l.invariant c.in_ok-add_number.ensures

pub returns : goal.returns
returns c = let l = c.loop-label in l.invariant ∙ ap (filter_map (number_in c.args.numbers.now)) (take_all l.label-index c.args.labels.now c.loop-label-test.false)
