use Rattle.bq_value.proofs.Freezes.{load_keeps, load_brings}
use Rattle.bq_value.proofs.store_laws.loading_a_module.Goals as goal

pub returns-clause-keeps : goal.returns-clause-keeps
returns-clause-keeps c = load_keeps

pub returns-clause-brings : goal.returns-clause-brings
returns-clause-brings c = load_brings
