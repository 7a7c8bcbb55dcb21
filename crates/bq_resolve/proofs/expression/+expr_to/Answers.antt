use Rattle.bq_resolve.proofs.ExpressionLayers.{expr_layer}
use Rattle.bq_resolve.proofs.expression.+expr_to.Goals as goal

pub returns : goal.returns
returns t c = rw (expr_layer c.args.depth c.args.scope.now.file.now c.args.scope.now.blocks.now c.args.expr.now c.args.walk.now c.if-depth-eq0.false) c.expr_by.ensures
