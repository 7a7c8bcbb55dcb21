use Rattle.bq_builtin_laws.proofs.StringMethods.Removing.{without_prefix, without_suffix}
use Rattle.bq_builtin_laws.proofs.string_method.affixes_are_removed_once.Goals as goal

pub returns-clause-prefix : goal.returns-clause-prefix
returns-clause-prefix c = without_prefix

pub returns-clause-suffix : goal.returns-clause-suffix
returns-clause-suffix c = without_suffix
