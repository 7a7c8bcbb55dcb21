use Rattle.bq_builtin_laws.proofs.StringMethods.Regions.{not_found, not_rfound, no_index, no_rindex}
use Rattle.bq_builtin_laws.proofs.string_method.what_is_not_found_is_not_there.Goals as goal

pub returns-clause-find : goal.returns-clause-find
returns-clause-find c sub text vs start end k asked h = not_found sub text vs start end asked k h

pub returns-clause-rfind : goal.returns-clause-rfind
returns-clause-rfind c sub text vs start end k asked h = not_rfound sub text vs start end asked k h

pub returns-clause-index : goal.returns-clause-index
returns-clause-index c sub text vs start end asked h = no_index sub text vs start end asked h

pub returns-clause-rindex : goal.returns-clause-rindex
returns-clause-rindex c sub text vs start end asked h = no_rindex sub text vs start end asked h
