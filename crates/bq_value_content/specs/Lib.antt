pub use Rattle.bq_value_dict.specs.Pairs
pub mod Contents
pub mod ContentOf
pub mod Sharing
pub mod Kinds
pub mod Made
pub mod MadeOf
pub mod Lending
