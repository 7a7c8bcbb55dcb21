use Rattle.bq_builtin_methods.proofs.Calls.{string_by_number, list_by_number, dict_by_number}
use Rattle.bq_builtin_methods.proofs.table_laws.other_numbers_of_arguments.Goals as goal

pub returns-clause-strings : goal.returns-clause-strings
returns-clause-strings c = λ name text fewest most calling s found args other. string_by_number name fewest most args s other text calling found

pub returns-clause-lists : goal.returns-clause-lists
returns-clause-lists c = λ name fewest most calling found home number values s at args other. list_by_number name fewest most args s other home number values calling at found

pub returns-clause-dicts : goal.returns-clause-dicts
returns-clause-dicts c = λ name fewest most calling found home number dict s at args other. dict_by_number name fewest most args s other home number dict calling at found
