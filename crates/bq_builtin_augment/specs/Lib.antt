pub use Rattle.bq_builtin_operators.specs.InPlace
