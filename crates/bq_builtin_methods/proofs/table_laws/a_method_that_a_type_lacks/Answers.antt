use Rattle.bq_builtin_methods.proofs.Calls.{string_lacks, list_lacks, dict_lacks, rule_lacks, others_lack}
use Rattle.bq_builtin_methods.proofs.table_laws.a_method_that_a_type_lacks.Goals as goal

pub returns-clause-strings : goal.returns-clause-strings
returns-clause-strings c = λ name text s h args. string_lacks name text args s h

pub returns-clause-lists : goal.returns-clause-lists
returns-clause-lists c = λ name h home number values s at args. list_lacks name home number values args s at h

pub returns-clause-dicts : goal.returns-clause-dicts
returns-clause-dicts c = λ name h home number dict s at args. dict_lacks name home number dict args s at h

pub returns-clause-rules : goal.returns-clause-rules
returns-clause-rules c = λ name home number class s at args. rule_lacks name home number class args s at

pub returns-clause-others : goal.returns-clause-others
returns-clause-others c = λ name receiver s h args. others_lack name receiver args s h
