use Rattle.std.proofs.Common.{get_or}
use Rattle.bq_board_plan.proofs.Lemmas.{Has-get_or}
use Rattle.bq_load_order.proofs.ImportedValues.{imports_begin, imports_next, imports_stop, imports_end}
use Rattle.bq_load_order.proofs.imports.imported.Goals as goal

pub bounds-found-l : goal.bounds-found-l
bounds-found-l g c = c.requires (get_or c.args.loads.now c.loop-l.l-index 0) (Has-get_or c.args.loads.now c.loop-l.l-index c.loop-l-test.true)

pub loop-l-init : goal.loop-l-init
loop-l-init g c = imports_begin g.E.Evaluate.see g.E.Evaluate.see_fault c.args.found.now c.args.loads.now c.new-imports.result.items c.new-imports.ensures.items

pub loop-l-preserved : goal.loop-l-preserved
loop-l-preserved g c =
    imports_next g.E.Evaluate.see g.E.Evaluate.see_fault c.args.found.now c.args.loads.now c.loop-l.l-index c.loop-l.imports.items c.push.new.self.items c.in-Some.value c.loop-l-test.true
    (c.requires (get_or c.args.loads.now c.loop-l.l-index 0) (Has-get_or c.args.loads.now c.loop-l.l-index c.loop-l-test.true))
    c.index-found-l.result c.index-found-l.is c.in_ok-value.field-0 c.in_ok-value.ensures c.in-Some.is c.in_ok-push-in-Some.ensures.items c.loop-l.invariant

pub returns-in-None : goal.returns-in-None
returns-in-None g c =
    imports_stop g.E.Evaluate.see g.E.Evaluate.see_fault c.args.found.now c.args.loads.now c.loop-l.l-index c.loop-l.imports.items c.loop-l-test.true
    (c.requires (get_or c.args.loads.now c.loop-l.l-index 0) (Has-get_or c.args.loads.now c.loop-l.l-index c.loop-l-test.true))
    c.index-found-l.result c.index-found-l.is c.in_ok-value.field-0 c.in_ok-value.ensures c.in-None.is c.loop-l.invariant

pub returns : goal.returns
returns g c = imports_end g.E.Evaluate.see g.E.Evaluate.see_fault c.args.found.now c.args.loads.now c.loop-l.l-index c.loop-l.imports.items c.loop-l-test.false c.loop-l.invariant
