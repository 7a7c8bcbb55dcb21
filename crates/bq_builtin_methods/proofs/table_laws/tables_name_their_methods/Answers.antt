use Rattle.bq_builtin_methods.proofs.Tables.{strings_named, lists_named, dicts_named}
use Rattle.bq_builtin_methods.proofs.table_laws.tables_name_their_methods.Goals as goal

pub returns-clause-strings : goal.returns-clause-strings
returns-clause-strings c = strings_named

pub returns-clause-lists : goal.returns-clause-lists
returns-clause-lists c = lists_named

pub returns-clause-dicts : goal.returns-clause-dicts
returns-clause-dicts c = dicts_named
