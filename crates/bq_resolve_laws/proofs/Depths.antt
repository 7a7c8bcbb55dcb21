-- `Layers`: the depth of a tree by its outermost layer. `Calm`: walks whose faults are of names. `Expressions`, `Statements`,
-- `Files`: each rule is such a walk.
pub mod Layers
pub mod Calm
pub mod Expressions
pub mod Statements
pub mod Files
