-- What comes after a statement of the code, and after those of a file.
use Rattle.std.specs.Prelude.{Result, Ok, Err}
use Rattle.bq_value.specs.declared.error.EvalErr.{EvalErr}
use Rattle.bq_eval_spec.specs.Calls.{answered}
use Rattle.bq_eval_spec.specs.Statements.{Flow, next, leave, again, answer}
use Rattle.bq_eval_rules.specs.declared.flow.Ending.{Ending}
use Rattle.bq_eval_rules.specs.declared.flow.Ending.TheVariants as endings
use Rattle.bq_eval_rules.specs.declared.flow.Flow as flows
use Rattle.bq_eval_rules.specs.declared.flow.Flow.TheVariants as variants
use Rattle.bq_eval_rules.specs.Answers.{AnswerPlace}

-- of a statement; where it has ended the function, the place has what the function returns, or why it stopped
abbrev pub flow_of : flows.Flow → AnswerPlace → Result Flow EvalErr
flow_of variants.Next place = Ok next
flow_of variants.Leave place = Ok leave
flow_of variants.Again place = Ok again
flow_of variants.Ended (Ok v) = Ok (answer v)
flow_of variants.Ended (Err e) = Err e

-- what a function returns whose body ended so
abbrev pub result_of : Result Flow EvalErr → AnswerPlace
result_of (Ok f) = Ok (answered f)
result_of (Err e) = Err e

-- of the statements of a file
abbrev pub ending_of : Ending → Flow
ending_of endings.Next = next
ending_of endings.Leave = leave
ending_of endings.Again = again
ending_of (endings.Answer v) = answer v

-- what comes after the statements of a file, or the error that they ended with
abbrev pub ending_in : Result Ending EvalErr → Result Flow EvalErr
ending_in (Ok e) = Ok (ending_of e)
ending_in (Err e) = Err e
