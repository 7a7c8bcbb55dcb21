pub use Rattle.bq_eval.specs.Module
pub use Rattle.bq_eval.specs.Outcomes
pub use Rattle.bq_eval.specs.Round
pub use Rattle.bq_eval.specs.declared.module.ResolvedModule
pub use Rattle.bq_package.specs.Calls
pub mod Views
pub mod Run
