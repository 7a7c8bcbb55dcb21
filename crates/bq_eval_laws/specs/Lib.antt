pub mod Layers
pub mod Depth
pub mod Frames
pub mod Order
pub mod Arguments
pub mod Decides
pub mod Turns
pub mod Targets
pub mod Updates
pub mod Steps
pub mod Flows
pub mod LoadedGlobals
pub mod Referents
pub mod Fits
pub mod FileDepth
pub mod Sound
pub mod Stuck
pub mod FileSoundness
-- evaluations of files
pub mod Evaluations
-- calls
pub mod Calls
-- calls of build functions
pub mod BuildFunctions
-- calls of rules
pub mod RuleCalls
