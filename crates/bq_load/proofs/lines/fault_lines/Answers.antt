use Rattle.std.proofs.Common.{map}
use Rattle.bq_base_texts.specs.FaultLine.{sorted_lines}
use Rattle.bq_load.specs.Views.{outcome_view}
use Rattle.bq_load.specs.Loaded.{fault_lines}
use Rattle.bq_load.proofs.Put.{next_put, done_put}
use Rattle.bq_load.proofs.lines.fault_lines.Goals as goal

pub loop-each-preserved : goal.loop-each-preserved
loop-each-preserved c =
    let l = c.loop-each in
    next_put c.args.modules.now l.each-index c.each-item.result c.loop-each-test.true c.each-item.is l.lines c.add_line.new.lines c.in_ok-add_line.ensures (sorted_lines (fault_lines (map outcome_view c.args.modules.now))) l.invariant

pub returns : goal.returns
returns c = let l = c.loop-each in done_put c.args.modules.now l.each-index c.loop-each-test.false l.lines (sorted_lines (fault_lines (map outcome_view c.args.modules.now))) l.invariant
