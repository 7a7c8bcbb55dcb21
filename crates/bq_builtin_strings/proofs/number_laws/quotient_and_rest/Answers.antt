use Rattle.bq_builtin_strings.proofs.Rests.{whole, between}
use Rattle.bq_builtin_strings.proofs.number_laws.quotient_and_rest.Goals as goal

pub returns-clause-whole : goal.returns-clause-whole
returns-clause-whole c = whole

pub returns-clause-between : goal.returns-clause-between
returns-clause-between c = between
