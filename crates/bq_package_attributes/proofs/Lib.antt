pub mod RuleCases
-- actions of a machine, beside what a host keeps
pub mod Lifting
-- no key of a dict is twice, so no attribute of its rule is
pub mod DistinctNames
-- the attributes of a rule are those of its dict
pub mod DictEntries
-- the attributes of a rule as they are read one after another
pub mod Building
-- the attributes of a rule, place by place
pub mod Places
-- what rules are refused for
pub mod RuleRefusals
pub mod DeclarationCases
-- a table that is read place by place
pub mod ClassEntries
-- what the arguments of a call give is of its package
pub mod Own
-- the target that a call declares is of its package, and so are the files that the rule makes
pub mod Declared
-- keyword arguments keep their order, and the first faulty one decides
pub mod GivenKeywords
-- few arguments, which no dict holds, are those that a dict would hold
pub mod Few
-- the target that a call declares has each attribute that has to be given
pub mod Mandatory
