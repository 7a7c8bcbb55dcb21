-- what an answer in place of a pattern says
pub mod Cases
pub mod Patterns
-- what calls mean, one function at a time
pub mod Meaning
-- what is kept after a call that declares
pub mod Settling
-- what calls declare is of the package that is kept
pub mod Owning
-- what is declared stays
pub mod Staying
-- both ways of declaring rules are one; what a host says beside
pub mod Alike
