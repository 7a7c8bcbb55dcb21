-- Which comparisons are opposite (Starlark, "Comparisons", "Membership tests").
use Rattle.std.specs.Prelude.{◌≡◌, ℕ, Bool, not, Ok, Err}
use Rattle.bq_base.specs.declared.fault.EvalFault.{EvalFault}
use Rattle.bq_parse_grammar.specs.declared.tree.Comparison.{Comparison}
use Rattle.bq_parse_grammar.specs.declared.tree.Comparison.TheVariants as comparison
use Rattle.bq_value.specs.Cells.{StoreView}
use Rattle.bq_value.specs.Datum.{Datum}
use Rattle.bq_builtin_operators.specs.Comparing.{compared}

-- the second comparison is true where the first one is false, and false where it is true, with as many steps left; and it is refused for
-- the same
pub record AreOpposite (s : StoreView) (n : ℕ) (a b : Datum) (first second : Comparison) : Type 0 where
  pub answered : (so : Bool) (left : ℕ) → compared first s n a b ≡ Ok (so, left) → compared second s n a b ≡ Ok (not so, left)
  pub refused : (why : EvalFault) → compared first s n a b ≡ Err why → compared second s n a b ≡ Err why

-- `==` and `!=`, `in` and `not in`, `<` and `>=`, `<=` and `>` of two values are opposite, where `n` steps are left
pub record Opposites (s : StoreView) (n : ℕ) (a b : Datum) : Type 0 where
  pub equal : AreOpposite s n a b comparison.Equal comparison.NotEqual
  pub within : AreOpposite s n a b comparison.In comparison.NotIn
  pub less : AreOpposite s n a b comparison.Less comparison.GreaterEqual
  pub less_equal : AreOpposite s n a b comparison.LessEqual comparison.Greater

-- so are these comparisons of any two values, in any store and with any number of steps
abbrev pub OppositesDiffer : Type 0
OppositesDiffer = (s : StoreView) (n : ℕ) (a b : Datum) → Opposites s n a b
