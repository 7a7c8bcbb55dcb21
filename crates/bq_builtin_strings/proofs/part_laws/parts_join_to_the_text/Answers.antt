use Rattle.bq_builtin_strings.proofs.Joining.{join_split, rjoin_split}
use Rattle.bq_builtin_strings.proofs.part_laws.parts_join_to_the_text.Goals as goal

pub returns-clause-left : goal.returns-clause-left
returns-clause-left c = λ separator text most. join_split separator most text

pub returns-clause-right : goal.returns-clause-right
returns-clause-right c = λ separator text most. rjoin_split separator most text
