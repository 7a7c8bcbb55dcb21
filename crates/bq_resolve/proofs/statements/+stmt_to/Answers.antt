use Rattle.bq_resolve.proofs.StatementLayers.{writes_layer, writes_no_layer}
use Rattle.bq_resolve.proofs.statements.+stmt_to.Goals as goal

pub returns-then-layers-eq0 : goal.returns-then-layers-eq0
returns-then-layers-eq0 t c why =
    writes_no_layer c.args.scope.now.file.now c.args.layers c.args.scope.now.blocks.now c.args.looping c.args.statement.now c.args.walk.now c.at.result why c.if-layers-eq0.true c.at.ensures

pub returns : goal.returns
returns t c =
    writes_layer c.args.scope.now.file.now c.args.layers c.args.scope.now.blocks.now c.args.looping c.args.statement.now c.args.walk.now c.stmt.new.walk c.stmt.new.statement c.stmt.result c.if-layers-eq0.false c.stmt.ensures
