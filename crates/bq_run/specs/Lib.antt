pub mod Bundle
pub mod Written
pub mod WorkspaceRun
pub mod Run
