use Rattle.std.proofs.Common.{get_or, sym, ◌∙◌}
use Rattle.bq_board_plan.specs.Cycles.{starts_path}
use Rattle.bq_board_plan.specs.Depth.{max_load_depth}
use Rattle.bq_board_plan.proofs.Lemmas.{Has-get_or}
use Rattle.bq_load_order.proofs.Values.{first_next, first_stop}
use Rattle.bq_load_order.proofs.slots.first_at_limit.Goals as goal

pub is_at_limit-requires-clause-known : goal.is_at_limit-requires-clause-known
is_at_limit-requires-clause-known c = c.requires.known (get_or c.args.loads.now c.loop-l.l-index 0) (Has-get_or c.args.loads.now c.loop-l.l-index c.loop-l-test.true)

pub is_at_limit-requires-clause-acyclic : goal.is_at_limit-requires-clause-acyclic
is_at_limit-requires-clause-acyclic c = c.requires.acyclic (get_or c.args.loads.now c.loop-l.l-index 0) (Has-get_or c.args.loads.now c.loop-l.l-index c.loop-l-test.true)

pub returns-then-is_at_limit : goal.returns-then-is_at_limit
returns-then-is_at_limit c =
    sym (first_stop (starts_path c.args.graph.now max_load_depth) c.args.loads.now c.loop-l.l-index c.loop-l.invariant c.loop-l-test.true (sym c.is_at_limit.ensures ∙ c.if-is_at_limit.true))

pub loop-l-preserved : goal.loop-l-preserved
loop-l-preserved c =
    first_next (starts_path c.args.graph.now max_load_depth) c.args.loads.now c.loop-l.l-index c.loop-l.invariant c.loop-l-test.true (sym c.is_at_limit.ensures ∙ c.if-is_at_limit.false)
