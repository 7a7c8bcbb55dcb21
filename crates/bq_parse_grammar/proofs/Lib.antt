pub mod NextToken
pub mod Classes
pub mod Agrees
pub mod Chains
pub mod Lists
pub mod Operands
pub mod Unnamed
pub mod Suffixes
pub mod Vars
pub mod Keeping
pub mod Tests
-- Parts of definitions, as words that proofs name.
pub mod Cases
pub mod Ahead
