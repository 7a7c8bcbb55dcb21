use Rattle.bq_builtin_methods.proofs.Calls.{list_by_name, dict_by_name}
use Rattle.bq_builtin_methods.proofs.table_laws.arguments_by_name.Goals as goal

pub returns-clause-lists : goal.returns-clause-lists
returns-clause-lists c = λ name method found home number values s at args argument others named. list_by_name name method home number values args argument others s at found named

pub returns-clause-dicts : goal.returns-clause-dicts
returns-clause-dicts c = λ name fewest most calling found home number dict s at args argument others named.
    dict_by_name name fewest most calling home number dict args argument others s at found named
