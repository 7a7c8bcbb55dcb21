-- Environments of names: the values of names at a place of a program (Starlark specification, "Name binding and variables").
use Rattle.std.specs.Prelude.{List, [], Bool, true, false, ◌&&◌, Option, Some, None, bytes_eq, if◌then◌else◌}
use Rattle.std.specs.Option.{option_map}
use Rattle.bq_parse_grammar.specs.declared.tree.Argument.TheOpen.{Expr-F}
use Rattle.bq_parse_grammar.specs.declared.tree.Expr.{out-Expr}
use Rattle.bq_parse_grammar.specs.Targets.{ExprLayer}
use Rattle.bq_resolve_scope.specs.Names.{Name, has, with_name, with_each, with_stmt, comprehension_names}
use Rattle.bq_resolve_scope.specs.Scope.{or_else}
use Rattle.bq_resolve_scope.specs.Expressions.{NamedSpace, MemberCall, member_call, with_space, is_bzl}
use Rattle.bq_resolve_scope.specs.Universe.{UniverseParts, member_named, namespace_named, universe_has}
use Rattle.bq_resolve_scope.specs.declared.file.Formal.{Formal}
use Rattle.bq_resolve_scope.specs.declared.file.Formal.TheVariants as formal
use Rattle.bq_resolve_scope.specs.declared.file.Function.{Function}
use Rattle.bq_value.specs.Datum.{Datum}
use Rattle.bq_eval_spec.specs.Environment.{NameValue, variable, predeclared, NamespaceCall, Scoping}

-- Of each name: whether a block here holds it, and if one does, the value of the innermost one, or none while the name is not bound.
abbrev pub Env : Type 0
Env = Name → Option (Option Datum)

-- a name is bound
unfoldable pub bind : Env → Name → Datum → Env
bind env name v = λ other. if bytes_eq other name then Some (Some v) else env other

-- a block opens: its names hide those of the same name around it, and none of them is bound yet
unfoldable pub declare : Env → List Name → Env
declare env names = λ other. if has names other then Some None else env other

-- outside functions and comprehensions no block is open
unfoldable pub outside : Env
outside name = None

-- What is around a function's body or a file's statements: the names that the file binds, those that its loads bind,
-- and those that every file of its kind has.
pub record Round : Type 0 where
  pub globals : Env
  pub loaded : Env
  pub universe : UniverseParts

-- a name has no meaning here
abbrev pub is_unknown : Option NameValue → Bool
is_unknown None = true
is_unknown (Some v) = false

module _ (round : Round) where
  -- "a use belongs to the innermost block around it whose set holds the name": else to the file's, else to its loads,
  -- else to all files
  unfoldable pub held : Env → Name → Option NameValue
  held env name = or_else (option_map variable (or_else (env name) (or_else (round.globals name) (round.loaded name)))) (option_map predeclared (universe_has round.universe name))

  -- a namespace of a .bzl file, where no such name is bound
  abbrev pub namespace_at : ExprLayer → Env → Option NamedSpace
  namespace_at (Expr-F.Expr::Name n) env = with_space n (if is_bzl round.universe.kind && is_unknown (held env n.name) then namespace_named n.name else None)
  namespace_at _ env = None

  -- what a namespace has by the name that is called
  abbrev pub member_of : Option MemberCall → Option NamespaceCall
  member_of None = None
  member_of (Some (space, n, xs, rest)) = Some (member_named space.0 round.universe.rules n.name, xs, rest)

-- the value of a name that is assigned: its own block holds it, so nothing around that block is read
abbrev pub own_value : Option (Option Datum) → Option Datum
own_value None = None
own_value (Some v) = v

-- the name of a parameter joins others
abbrev pub with_formal : List Name → Formal → List Name
with_formal names (formal.Plain n) = with_name names n.name
with_formal names (formal.Default n) = with_name names n.name
with_formal names formal.BareStar = names
with_formal names (formal.Star n) = with_name names n.name
with_formal names (formal.StarStar n) = with_name names n.name

-- what the block of a function holds: its parameters, and what its statements bind
unfoldable pub names_of : Function → List Name
names_of d = with_each with_stmt (with_each with_formal [] d.parameters) d.body

-- what names mean
abbrev pub by_names : Scoping Round Env
by_names = record {
  value = λ round env n. held round env n.name;
  member = λ round env x ss. member_of round (member_call (namespace_at round (out-Expr x) env) ss);
  own_value = λ env n. own_value (env n.name);
  bind = λ env n v. bind env n.name v;
  outside = outside;
  in_function = λ d. declare outside (names_of d);
  in_comprehension = λ env cs own. declare env (comprehension_names cs);
}
