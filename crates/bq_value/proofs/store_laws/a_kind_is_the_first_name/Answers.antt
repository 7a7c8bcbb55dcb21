use Rattle.bq_value.proofs.Naming.{frozen_kind, loaded_kind, own_kind}
use Rattle.bq_value.proofs.store_laws.a_kind_is_the_first_name.Goals as goal

pub returns-clause-frozen : goal.returns-clause-frozen
returns-clause-frozen c = frozen_kind

pub returns-clause-loaded : goal.returns-clause-loaded
returns-clause-loaded c = λ s t names gs apart absent number class holds. loaded_kind s t names gs number class apart absent holds

pub returns-clause-own : goal.returns-clause-own
returns-clause-own c = own_kind
