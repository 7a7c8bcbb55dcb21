pub mod Depth
-- nodes of a known form
pub mod Forms
pub mod Layers
pub mod Reversed
pub mod Following
-- what goes on from an answer
pub mod Answering
-- what comes after a statement
pub mod Flowing
pub mod Deciding
pub mod Assigning
-- statements, by their layer
pub mod Running
pub mod Clauses
pub mod Loops
pub mod ParameterLists
pub mod CallSteps
-- arguments go straight into the frame
pub mod Straight
-- arguments are evaluated straight into the frame
pub mod Taken
-- what a walk says of the elements that are left
pub mod Next
