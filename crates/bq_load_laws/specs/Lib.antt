pub mod Lines
-- load graphs
pub mod Graphs
-- outcomes of modules
pub mod Outcomes
-- packages of modules
pub mod Packages
-- faults of modules
pub mod Faults
-- calls along loads
pub mod Calls
pub mod FileReadings
pub mod Evaluations
pub mod ChangedOutcomes
