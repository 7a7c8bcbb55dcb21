use Rattle.bq_eval_laws.proofs.Depths.{expression_depth, statement_depth, binding_depth, place_depth, slot_members, name_members}
use Rattle.bq_eval_laws.proofs.meaning.depth_changes_nothing.Goals as goal

pub returns-clause-expression : goal.returns-clause-expression
returns-clause-expression c k m scoping = expression_depth m scoping

pub returns-clause-statement : goal.returns-clause-statement
returns-clause-statement c k m scoping = statement_depth m scoping

pub returns-clause-binding : goal.returns-clause-binding
returns-clause-binding c k m scoping = binding_depth m scoping

pub returns-clause-places : goal.returns-clause-places
returns-clause-places c k m scoping = place_depth m scoping

pub returns-clause-slots : goal.returns-clause-slots
returns-clause-slots c k = slot_members

pub returns-clause-names : goal.returns-clause-names
returns-clause-names c k = name_members
