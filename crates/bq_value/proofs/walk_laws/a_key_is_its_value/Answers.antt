use Rattle.bq_value.proofs.Keys.{key_value, key_kind, key_never}
use Rattle.bq_value.proofs.walk_laws.a_key_is_its_value.Goals as goal

pub returns-clause-value : goal.returns-clause-value
returns-clause-value c = key_value 64

pub returns-clause-kind : goal.returns-clause-kind
returns-clause-kind c = key_kind 64

pub returns-clause-accepted : goal.returns-clause-accepted
returns-clause-accepted c v n = key_never 64 v n
