-- Which names a block binds, in order of first binding (Starlark specification, "Name binding and variables"). An assignment, an
-- augmented assignment and a `for` bind the names of their targets, a `def` its own name, wherever in the block they stand; what an
-- inner `def` or a comprehension binds is no name of the block.
use Rattle.std.specs.Prelude.{ℕ, zero, suc, List, [], ◌∷◌, ◌++◌, Bool, Option, Some, None, bytes_eq, if◌then◌else◌}
use Rattle.std.specs.Option.{option_map}
pub use Rattle.bq_base_texts.specs.NameSet.{has}
use Rattle.bq_parse_grammar.specs.declared.tree.Argument.TheOpen.{Clause-F, TargetExpr-F}
use Rattle.bq_parse_grammar.specs.declared.tree.Argument.{Argument}
use Rattle.bq_parse_grammar.specs.declared.tree.Choice.{Choice}
use Rattle.bq_parse_grammar.specs.declared.tree.Expr.{Expr}
use Rattle.bq_parse_grammar.specs.declared.tree.Operation.{Operation}
use Rattle.bq_parse_grammar.specs.declared.tree.Pair.{Pair}
use Rattle.bq_parse_grammar.specs.declared.tree.Suffix.{Suffix}
use Rattle.bq_parse_grammar.specs.declared.tree.Clause.{Clause, out-Clause}
use Rattle.bq_parse_grammar.specs.declared.tree.TargetExpr.{TargetExpr, out-TargetExpr}
use Rattle.bq_parse_grammar.specs.declared.tree.Branch.{Branch, out-Branch}
use Rattle.bq_parse_grammar.specs.declared.tree.Stmt.{Stmt, out-Stmt}
use Rattle.bq_parse_grammar.specs.declared.tree.Stmt.TheOpen.{Stmt-F}
use Rattle.bq_parse_grammar.specs.declared.tree.SmallStmt.{SmallStmt}
use Rattle.bq_parse_grammar.specs.declared.tree.SmallKind.TheVariants as small
use Rattle.bq_parse_grammar.specs.declared.tree.Parameter.{Parameter}
use Rattle.bq_parse_grammar.specs.declared.tree.Parameter.TheVariants as parameter
use Rattle.bq_parse_grammar.specs.declared.tree.LoadClause.{LoadClause}
use Rattle.bq_parse_grammar.specs.declared.tree.TopLevel.{TopLevel}

-- a name, as its bytes
abbrev pub Name : Type 0
Name = List ℕ

-- How many layers of a tree are looked at. A tree that is parsed has fewer: at most 64 brackets and indents are in one another, with
-- 14 layers of operators in each.
unfoldable pub max_layers : ℕ
max_layers = 1024

-- the place of the name among these
unfoldable pub place_among : Name → List Name → Option ℕ
place_among name [] = None
place_among name (x ∷ xs) = if bytes_eq name x then Some 0 else option_map suc (place_among name xs)

-- the names so far, and this one
unfoldable pub with_name : List Name → Name → List Name
with_name names name = if has names name then names else names ++ name ∷ []

-- the names so far, and those of all of these
abbrev pub with_each : {A : Type 0} → (List Name → A → List Name) → List Name → List A → List Name
with_each add names [] = names
with_each add names (x ∷ xs) = with_each add (add names x) xs

-- ---- targets

-- the form of a target
abbrev pub TargetLayer : Type 0
TargetLayer = TargetExpr-F Argument Clause Expr Suffix TargetExpr Choice Operation Pair

-- the form of a clause
abbrev pub ClauseLayer : Type 0
ClauseLayer = Clause-F Argument Clause Expr Suffix TargetExpr Choice Operation Pair

-- the names that a target binds join others, by its form
abbrev pub with_target_by : (List Name → TargetExpr → List Name) → List Name → TargetLayer → List Name
with_target_by inner names (TargetExpr-F.TargetExpr::Name n) = with_name names n.name
with_target_by inner names (TargetExpr-F.TargetExpr::Index x i) = names
with_target_by inner names (TargetExpr-F.TargetExpr::Tuple ts) = with_each inner names ts
with_target_by inner names (TargetExpr-F.TargetExpr::List ts) = with_each inner names ts

-- the names of a target join others, down to a depth
unfoldable pub with_target_to : ℕ → List Name → TargetExpr → List Name
with_target_to zero names t = names
with_target_to (suc depth) names t = with_target_by (with_target_to depth) names (out-TargetExpr t)

-- with a target's names
unfoldable pub with_target : List Name → TargetExpr → List Name
with_target names t = with_target_to max_layers names t

-- the names that a clause binds join others
abbrev pub with_clause_by : List Name → ClauseLayer → List Name
with_clause_by names (Clause-F.For t e) = with_target names t
with_clause_by names (Clause-F.If e) = names

-- with the variables of a clause
unfoldable pub with_clause : List Name → Clause → List Name
with_clause names c = with_clause_by names (out-Clause c)

-- what a comprehension binds
unfoldable pub comprehension_names : List Clause → List Name
comprehension_names cs = with_each with_clause [] cs

-- ---- statements

-- the names that a small statement assigns join others
unfoldable pub with_small : List Name → SmallStmt → List Name
with_small names s = elim s.kind [ small.Assign t e ↦ with_target names t | small.Augment t o e ↦ with_target names t | _ ↦ names ]

-- the names bound in a branch join others
abbrev pub with_branch : (List Name → Stmt → List Name) → List Name → Branch → List Name
with_branch inner names b = with_each inner names (out-Branch b).block

-- the names that a statement binds join others, by its form
abbrev pub with_stmt_by : (List Name → Stmt → List Name) → List Name → Stmt-F Stmt Branch → List Name
with_stmt_by inner names (Stmt-F.Simple xs) = with_each with_small names xs
with_stmt_by inner names (Stmt-F.If bs zs) = with_each inner (with_each (with_branch inner) names bs) zs
with_stmt_by inner names (Stmt-F.For t e xs) = with_each inner (with_target names t) xs
with_stmt_by inner names (Stmt-F.Def n ps xs) = with_name names n.name

-- the names of a statement join others, down to a depth
unfoldable pub with_stmt_to : ℕ → List Name → Stmt → List Name
with_stmt_to zero names s = names
with_stmt_to (suc depth) names s = with_stmt_by (with_stmt_to depth) names (out-Stmt s)

-- with what a statement binds in its block
unfoldable pub with_stmt : List Name → Stmt → List Name
with_stmt names s = with_stmt_to max_layers names s

-- ---- functions

-- the name of a parameter joins others
abbrev pub with_parameter : List Name → Parameter → List Name
with_parameter names (parameter.Plain n) = with_name names n.name
with_parameter names (parameter.Default n e) = with_name names n.name
with_parameter names parameter.BareStar = names
with_parameter names (parameter.Star n) = with_name names n.name
with_parameter names (parameter.StarStar n) = with_name names n.name

-- what a function binds: its parameters, and what its statements bind
unfoldable pub function_names : List Parameter → List Stmt → List Name
function_names ps body = with_each with_stmt (with_each with_parameter [] ps) body

-- ---- files

-- what a file binds, but for its loads
unfoldable pub global_names : List TopLevel → List Name
global_names ts = with_each (λ names t. with_stmt names t.statement) [] ts

-- the name that a loaded symbol gets joins others
abbrev pub with_load_clause : List Name → LoadClause → List Name
with_load_clause names c = with_name names c.local.name

-- the names that a small statement loads join others
unfoldable pub with_load : List Name → SmallStmt → List Name
with_load names s = elim s.kind [ small.Load l ↦ with_each with_load_clause names l.clauses | _ ↦ names ]

-- the names that a statement loads join others
abbrev pub with_loads_by : List Name → Stmt-F Stmt Branch → List Name
with_loads_by names (Stmt-F.Simple xs) = with_each with_load names xs
with_loads_by names _ = names

-- the names that a statement at the top level loads join others
unfoldable pub with_loads : List Name → TopLevel → List Name
with_loads names t = with_loads_by names (out-Stmt t.statement)

-- what a file's loads bind, which stand outside all blocks
unfoldable pub loaded_names : List TopLevel → List Name
loaded_names ts = with_each with_loads [] ts
