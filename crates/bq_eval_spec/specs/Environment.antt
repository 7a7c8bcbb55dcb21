-- Environments: how names are read and bound at a place of a program (Starlark specification, "Name binding and variables"). What a
-- program means is said for any type `V` of environments, and any type `R` of what is around a function's body or a file's statements.
use Rattle.std.specs.Prelude.{List, Option}
use Rattle.bq_parse_grammar.specs.declared.tree.Argument.{Argument}
use Rattle.bq_parse_grammar.specs.declared.tree.Clause.{Clause}
use Rattle.bq_parse_grammar.specs.declared.tree.ComprehensionFrame.{ComprehensionFrame}
use Rattle.bq_parse_grammar.specs.declared.tree.Expr.{Expr}
use Rattle.bq_parse_grammar.specs.declared.tree.Identifier.{Identifier}
use Rattle.bq_parse_grammar.specs.declared.tree.Suffix.{Suffix}
use Rattle.bq_predeclared.specs.declared.predeclared.Predeclared.{Predeclared}
use Rattle.bq_resolve_scope.specs.declared.file.Function.{Function}
use Rattle.bq_value.specs.Datum.{Datum}

-- what a name has: a variable its value, or none while it is not bound; any other what all files have by the name
pub data NameValue : Type 0 where
  variable : Option Datum → NameValue
  predeclared : Predeclared → NameValue

-- `native.name(..)` or `attr.name(..)`: what the namespace has by the name, if anything; the arguments; what is done to the result
abbrev pub NamespaceCall : Type 0
NamespaceCall = Option Predeclared × List Argument × List Suffix

-- what names mean
pub record Scoping (R V : Type 0) : Type 0 where
  -- what a name that is used has, if it is known
  pub value : R → V → Identifier → Option NameValue
  -- the call of a namespace's member that an operand and its suffixes are, if they are one
  pub member : R → V → Expr → List Suffix → Option NamespaceCall
  -- the value of a name that is assigned, in its own block: none while it is not bound
  pub own_value : V → Identifier → Option Datum
  -- a name is bound
  pub bind : V → Identifier → Datum → V
  -- no block is open
  pub outside : V
  -- the block of a function opens, with the names of its parameters and all that its body binds
  pub in_function : Function → V
  -- the block of a comprehension opens, with the variables of all its clauses
  pub in_comprehension : V → List Clause → ComprehensionFrame → V
