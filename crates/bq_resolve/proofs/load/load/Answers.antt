use Rattle.std.proofs.Common.{arith}
use Rattle.std.proofs.lemmas.Grind.{common_steps}
use Rattle.bq_resolve_scope.specs.Visit.{each}
use Rattle.bq_resolve_scope.specs.Statements.{load, load_clause}
use Rattle.bq_resolve.proofs.load.load.Goals as goal

pub loop-clause-init : goal.loop-clause-init
unfolding load load_clause each
loop-clause-init c = grind (arith, common_steps)

pub loop-clause-preserved : goal.loop-clause-preserved
unfolding load load_clause each
loop-clause-preserved c = grind (arith, common_steps)

pub returns : goal.returns
unfolding load load_clause each
returns c = grind (arith, common_steps)
