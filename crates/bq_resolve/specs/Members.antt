-- A call of a member of a namespace, as `native.name(..)` and `attr.name(..)`: both of its words refer to the member.
use Rattle.std.specs.Prelude.{List, [], ◌∷◌, Option, None}
use Rattle.bq_parse_grammar.specs.declared.tree.Argument.TheOpen.{Expr-F, Suffix-F}
use Rattle.bq_parse_grammar.specs.declared.tree.Expr.{Expr, out-Expr}
use Rattle.bq_parse_grammar.specs.declared.tree.Expr.TheVariants as e
use Rattle.bq_parse_grammar.specs.declared.tree.Referent.TheVariants as b
use Rattle.bq_parse_grammar.specs.declared.tree.Suffix.{Suffix, out-Suffix}
use Rattle.bq_parse_grammar.specs.declared.tree.Suffix.TheVariants as suffix
use Rattle.bq_parse_grammar.specs.Targets.{ExprLayer, SuffixLayer}
use Rattle.bq_predeclared.specs.declared.predeclared.Predeclared.{Predeclared}
use Rattle.bq_resolve_scope.specs.declared.universe.Namespace.{Namespace}
use Rattle.bq_resolve_scope.specs.Scope.{BlockParts, FileParts}
use Rattle.bq_resolve_scope.specs.Visit.{Visit, ◌>>=◌, pure}
use Rattle.bq_resolve_scope.specs.Expressions.{refer, space_of, arguments, operand, suffix_by, suffixes}

-- the namespace that an operand is, if it is one
abbrev pub space_at : FileParts → List BlockParts → ExprLayer → Option Namespace
space_at file blocks (Expr-F.Expr::Name n) = space_of file blocks n
space_at file blocks _ = None

-- a name, made to refer to the member; any other expression stays what it is
abbrev pub as_member : Predeclared → ExprLayer → Expr → Expr
as_member p (Expr-F.Expr::Name n) other = e.Name (refer n (b.Member p))
as_member p _ other = other

module _ (file : FileParts) (visit : List BlockParts → Expr → Visit Expr) (blocks : List BlockParts) where
  -- a method that calls the member; any other suffix is resolved as it is
  abbrev pub member_suffix_by : Predeclared → SuffixLayer → Visit Suffix
  member_suffix_by p (Suffix-F.Method m xs) = arguments file visit blocks xs >>= λ ys. pure (suffix.Method (refer m (b.Member p)) ys)
  member_suffix_by p l = suffix_by file visit blocks l

  -- a call of the member, and what is done to its result
  abbrev pub member_primary : Predeclared → Expr → List Suffix → Visit Expr
  member_primary p x [] = operand file visit blocks x []
  member_primary p x (s ∷ ss) =
      member_suffix_by p (out-Suffix s) >>= λ y. suffixes file visit blocks (y ∷ []) ss >>= λ ts. pure (e.Primary (as_member p (out-Expr x) x) ts)
