-- the words of an `IndexMap` are those of a dict
pub use Rattle.bq_value_dict.proofs.Lookups
-- what a dict has after a pair was put or taken out
pub use Rattle.bq_value_dict.proofs.Puts
