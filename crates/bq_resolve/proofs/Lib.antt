-- `Layers`: one layer of a tree. `Frames`: the frame that a comprehension is in.
mod ExpressionLayers
-- Comprehensions, by their forms.
mod Forms
mod Frames
-- A call of a member.
mod Members
-- One item more of a list is done.
pub mod Each
-- `Layers`: one layer of a statement.
mod StatementLayers
