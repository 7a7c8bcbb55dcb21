use Rattle.std.proofs.Common.{◌∙◌, ap}
use Rattle.std.proofs.lemmas.List.{take_all}
use Rattle.std.specs.List.{filter_map}
use Rattle.bq_load_discover.specs.Edges.{number_in, rows_of}
use Rattle.bq_load_discover.proofs.Steps.{rows_next}
use Rattle.bq_load_discover.proofs.edges.rows.Goals as goal

pub loop-loader-preserved : goal.loop-loader-preserved
loop-loader-preserved c =
    let l = c.loop-loader in
    rows_next c.args.numbers.now c.args.modules.now l.loader-index c.loader-item.result l.rows.items c.push.new.self.items c.in_ok-row.field-0 c.loop-loader-test.true c.loader-item.is l.invariant
    (c.in_ok-row.ensures ∙ ap (filter_map (number_in c.args.numbers.now)) c.loads.ensures) c.in_ok-push.ensures.items

pub returns : goal.returns
returns c = let l = c.loop-loader in l.invariant ∙ ap (rows_of c.args.numbers.now) (take_all l.loader-index c.args.modules.now c.loop-loader-test.false)
