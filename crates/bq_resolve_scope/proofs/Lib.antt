-- `Places`: the place of a name among names. `Layers`: one layer of a tree. `Uses`: what a use stands for, and which names share a slot.
mod Places
mod Layers
mod Uses
mod Examples
-- Parts of definitions, as words that proofs name.
pub mod Cases
