use Rattle.std.proofs.Common.{arith}
use Rattle.std.proofs.lemmas.Grind.{common_steps}
use Rattle.bq_load.specs.Imports.{clause_values}
use Rattle.bq_load.proofs.exports.Exports.clause_values.Goals as goal

pub loop-clause-preserved : goal.loop-clause-preserved
unfolding clause_values
loop-clause-preserved c = grind (arith, common_steps)

pub returns-in_err-clause_value : goal.returns-in_err-clause_value
unfolding clause_values
returns-in_err-clause_value c = grind (arith, common_steps)

pub returns : goal.returns
unfolding clause_values
returns c = grind (arith, common_steps)
