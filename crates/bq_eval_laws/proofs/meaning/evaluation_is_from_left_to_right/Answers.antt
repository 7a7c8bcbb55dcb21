use Rattle.bq_eval_laws.proofs.InOrder.{displays, displays_stop, pairs, dict_displays, made_pairs, chains, operators, operands, compares, indexed, sliced, places}
use Rattle.bq_eval_laws.proofs.meaning.evaluation_is_from_left_to_right.Goals as goal

pub returns-clause-displays : goal.returns-clause-displays
returns-clause-displays c k m scoping = displays m scoping

pub returns-clause-stops : goal.returns-clause-stops
returns-clause-stops c k m scoping = displays_stop m scoping

pub returns-clause-pairs : goal.returns-clause-pairs
returns-clause-pairs c k m scoping = pairs m scoping

pub returns-clause-dicts : goal.returns-clause-dicts
returns-clause-dicts c k m scoping = dict_displays m scoping

pub returns-clause-made : goal.returns-clause-made
returns-clause-made c k m scoping = made_pairs m scoping

pub returns-clause-chains : goal.returns-clause-chains
returns-clause-chains c k m scoping = chains m scoping

pub returns-clause-operators : goal.returns-clause-operators
returns-clause-operators c k m scoping = operators m scoping

pub returns-clause-operands : goal.returns-clause-operands
returns-clause-operands c k m scoping = operands m scoping

pub returns-clause-comparisons : goal.returns-clause-comparisons
returns-clause-comparisons c k m scoping = compares m scoping

pub returns-clause-index : goal.returns-clause-index
returns-clause-index c k m scoping = indexed m scoping

pub returns-clause-slice : goal.returns-clause-slice
returns-clause-slice c k m scoping = sliced m scoping

pub returns-clause-places : goal.returns-clause-places
returns-clause-places c k m scoping = places m scoping
