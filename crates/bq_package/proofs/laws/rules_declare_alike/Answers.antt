use Rattle.bq_package.proofs.Alike.{rules_declare_alike}
use Rattle.bq_package.proofs.laws.rules_declare_alike.Goals as goal

pub returns : goal.returns
returns c = rules_declare_alike
