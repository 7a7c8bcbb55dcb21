use Rattle.bq_builtin_methods.proofs.Defaults.{default_found}
use Rattle.bq_builtin_methods.proofs.collection_laws.a_default_is_the_value.Goals as goal

pub returns : goal.returns
returns c = default_found
