-- the lines of labels that name no target
pub mod Lines
