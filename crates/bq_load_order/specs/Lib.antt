pub mod Outcome
pub mod OutcomeLaws
pub mod SharedOutcomes
pub mod Slots
pub mod Again
pub mod AgainLaws
