-- Forms of expressions.
use Rattle.std.specs.Prelude.{◌≢◌, List}
use Rattle.bq_parse_grammar.specs.declared.tree.Choice.{Choice}
use Rattle.bq_parse_grammar.specs.declared.tree.Expr.{Expr}
use Rattle.bq_parse_grammar.specs.declared.tree.Expr.TheVariants.{Binary, Conditional, Primary}
use Rattle.bq_parse_grammar.specs.declared.tree.Operation.{Operation}
use Rattle.bq_parse_grammar.specs.declared.tree.Suffix.{Suffix}

-- it is no chain of operators
abbrev pub IsNoChain : Expr → Type 0
IsNoChain x = (y : Expr) (os : List Operation) → x ≢ Binary y os

-- it is no operand with suffixes
abbrev pub HasNoSuffix : Expr → Type 0
HasNoSuffix x = (y : Expr) (ss : List Suffix) → x ≢ Primary y ss

-- it is no `x if y else z`
abbrev pub HasNoChoice : Expr → Type 0
HasNoChoice x = (cs : List Choice) (y : Expr) → x ≢ Conditional cs y
