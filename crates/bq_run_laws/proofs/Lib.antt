-- what queries stand for
pub mod Queries
-- labels that name no target
pub mod DanglingLabels
-- how kinds and values are written
pub mod Texts
-- what comes first where several things are wrong
pub mod Order
-- what a run writes, by how it ends
pub mod Written
-- in which lines the faults are
pub mod Lines
-- which files make a workspace, and how long a bundle may be
pub mod Workspaces
-- in which order facts are written
pub mod FactsOrder
