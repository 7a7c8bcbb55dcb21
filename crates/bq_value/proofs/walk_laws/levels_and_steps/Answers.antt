use Rattle.bq_value.proofs.Deep.{nested_equal, nested_too_deep, nested_ordered, nested_unordered, nested_walked, nested_unwalked}
use Rattle.bq_value.proofs.walk_laws.levels_and_steps.Goals as goal

pub returns-clause-equality : goal.returns-clause-equality
returns-clause-equality c = nested_equal 63

pub returns-clause-equality_ends : goal.returns-clause-equality_ends
returns-clause-equality_ends c = nested_too_deep 64

pub returns-clause-order : goal.returns-clause-order
returns-clause-order c = nested_ordered 62

pub returns-clause-order_ends : goal.returns-clause-order_ends
returns-clause-order_ends c = nested_unordered 63

pub returns-clause-key : goal.returns-clause-key
returns-clause-key c = nested_walked 63

pub returns-clause-key_ends : goal.returns-clause-key_ends
returns-clause-key_ends c = nested_unwalked 64
