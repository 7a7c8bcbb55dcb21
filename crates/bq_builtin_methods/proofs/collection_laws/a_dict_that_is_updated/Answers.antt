use Rattle.bq_builtin_methods.proofs.Ends.{updated_by_dict, updated_by_name}
use Rattle.bq_builtin_methods.proofs.collection_laws.a_dict_that_is_updated.Goals as goal

pub returns-clause-pairs : goal.returns-clause-pairs
returns-clause-pairs c = λ dict more home number other place answer s t here there ended. updated_by_dict home number other place dict more answer s t here there ended

pub returns-clause-name : goal.returns-clause-name
returns-clause-name c = λ name value dict more home number other place answer s t here there ended. updated_by_name home number other place name value dict more answer s t here there ended
