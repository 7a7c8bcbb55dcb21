use Rattle.bq_builtin_laws.proofs.StringMethods.Regions.{found, rfound, index_found, rindex_found}
use Rattle.bq_builtin_laws.proofs.string_method.places_are_of_the_whole_string.Goals as goal

pub returns-clause-find : goal.returns-clause-find
returns-clause-find c sub text vs start end at asked h = found sub text vs start end asked at h

pub returns-clause-rfind : goal.returns-clause-rfind
returns-clause-rfind c sub text vs start end at asked h = rfound sub text vs start end asked at h

pub returns-clause-index : goal.returns-clause-index
returns-clause-index c sub text vs start end at asked h = index_found sub text vs start end asked at h

pub returns-clause-rindex : goal.returns-clause-rindex
returns-clause-rindex c sub text vs start end at asked h = rindex_found sub text vs start end asked at h
