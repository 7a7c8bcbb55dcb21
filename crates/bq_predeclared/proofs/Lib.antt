-- the type that a name finds has the name
pub mod TypeFound
-- `Found`: a look-up by name finds what has the name, and nothing else. `AttrFound`: so does one of `attr.NAME`.
pub mod NameFound
mod AttrFound
-- Parts of definitions, as words that proofs name.
pub mod Cases
