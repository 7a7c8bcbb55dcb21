use Rattle.std.proofs.Common.{arith}
use Rattle.std.proofs.lemmas.Grind.{common_steps}
use Rattle.bq_parse_grammar.specs.ReadingStatements.{parameters}
use Rattle.bq_parse.proofs.LoopTurns.{turns_more, turns_over}
use Rattle.bq_parse.proofs.parameter_list.parameters.Goals as goal

pub loop-turn-preserved : goal.loop-turn-preserved
unfolding parameters
loop-turn-preserved c = grind (arith, common_steps, turns_more, turns_over)

pub returns-in_err-parameter : goal.returns-in_err-parameter
unfolding parameters
returns-in_err-parameter c = grind (arith, common_steps, turns_more, turns_over)
