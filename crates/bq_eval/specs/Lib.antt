pub mod Comparing
pub mod Making
pub mod Passing
pub mod Unpacking
pub mod Calling
pub mod Runtime
-- a few arguments, which no limit stops
pub mod FewArguments
pub use Rattle.bq_eval_rules.specs.Round
pub mod Module
pub mod Outcomes
