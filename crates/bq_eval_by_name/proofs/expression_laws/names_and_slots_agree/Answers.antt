use Rattle.bq_eval_by_name.proofs.ExpressionAgreement.{layers_agree, expressions_agree, outside_agree}
use Rattle.bq_eval_by_name.proofs.expression_laws.names_and_slots_agree.Goals as goal

pub returns-clause-layers : goal.returns-clause-layers
returns-clause-layers c w m file x = layers_agree m file x.round x.surroundings x.call x.other x.around x.calls

pub returns-clause-expressions : goal.returns-clause-expressions
returns-clause-expressions c w m file x = expressions_agree m file x.round x.surroundings x.call x.other x.around x.calls

pub returns-clause-outside : goal.returns-clause-outside
returns-clause-outside c w m file x = outside_agree m file x.round x.surroundings x.call x.other x.around x.calls
