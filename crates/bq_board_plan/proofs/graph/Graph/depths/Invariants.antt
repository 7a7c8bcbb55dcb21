use Rattle.std.proofs.Common.{take}
use Rattle.bq_board_plan.specs.Depth.{DepthsBelow}
use Rattle.bq_board_plan.proofs.graph.Graph.depths.Given as goal

abbrev pub invariant-loop-module : goal.invariant-loop-module
invariant-loop-module l = DepthsBelow l.self (take l.module-index l.sorted.modules.items) l.depths.items
