use Rattle.bq_builtin_methods.proofs.Defaults.{popped_gone}
use Rattle.bq_builtin_methods.proofs.collection_laws.a_key_that_is_popped_is_gone.Goals as goal

pub returns : goal.returns
returns c = λ key answer default dict after. popped_gone key answer default dict after
