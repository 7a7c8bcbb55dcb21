use Rattle.bq_builtin_methods.proofs.Places.{appended_popped, inserted_taken}
use Rattle.bq_builtin_methods.proofs.collection_laws.what_is_put_into_a_list_is_taken_out.Goals as goal

pub returns-clause-appended : goal.returns-clause-appended
returns-clause-appended c = appended_popped

pub returns-clause-inserted : goal.returns-clause-inserted
returns-clause-inserted c = inserted_taken
