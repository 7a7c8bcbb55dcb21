-- The rules of names and of flow that a file breaks, in the order of its text: each as the fault that names the token at which it is
-- broken. Nothing is resolved here, and nothing ends at the first one. A block is the set of its names; as many layers of a tree
-- are looked at as in `bq_resolve_scope` (`max_layers`).
use Rattle.std.specs.Prelude.{ℕ, zero, suc, List, [], ◌∷◌, ◌++◌, Bool, true, false, ◌||◌, ◌&&◌, not, Option, Some, None, is_some, if◌then◌else◌}
use Rattle.std.specs.List.{list_any, flat_map}
use Rattle.bq_base.specs.declared.fault.NameFault.{NameFault}
use Rattle.bq_base.specs.declared.fault.Fault.{Fault}
use Rattle.bq_base.specs.declared.fault.NameFault.TheVariants as f
use Rattle.bq_base.specs.Fault.{fault_at}
use Rattle.bq_parse_grammar.specs.declared.tree.Identifier.{Identifier}
use Rattle.bq_parse_grammar.specs.declared.tree.Argument.TheOpen.{Expr-F, Suffix-F, Argument-F, Clause-F, TargetExpr-F}
use Rattle.bq_parse_grammar.specs.declared.tree.Argument.{Argument, out-Argument}
use Rattle.bq_parse_grammar.specs.declared.tree.Branch.{Branch, out-Branch}
use Rattle.bq_parse_grammar.specs.declared.tree.Choice.{Choice, out-Choice}
use Rattle.bq_parse_grammar.specs.declared.tree.Clause.{Clause, out-Clause}
use Rattle.bq_parse_grammar.specs.declared.tree.Expr.{Expr, out-Expr}
use Rattle.bq_parse_grammar.specs.declared.tree.LoadClause.{LoadClause}
use Rattle.bq_parse_grammar.specs.declared.tree.Operation.{Operation, out-Operation}
use Rattle.bq_parse_grammar.specs.declared.tree.Pair.{Pair, out-Pair}
use Rattle.bq_parse_grammar.specs.declared.tree.Parameter.{Parameter}
use Rattle.bq_parse_grammar.specs.declared.tree.Parameter.TheVariants as parameter
use Rattle.bq_parse_grammar.specs.declared.tree.SmallKind.{SmallKind}
use Rattle.bq_parse_grammar.specs.declared.tree.SmallKind.TheVariants as small
use Rattle.bq_parse_grammar.specs.declared.tree.SmallStmt.{SmallStmt}
use Rattle.bq_parse_grammar.specs.declared.tree.Stmt.{Stmt, out-Stmt}
use Rattle.bq_parse_grammar.specs.declared.tree.Stmt.TheOpen.{Stmt-F}
use Rattle.bq_parse_grammar.specs.declared.tree.Suffix.{Suffix, out-Suffix}
use Rattle.bq_parse_grammar.specs.declared.tree.TargetExpr.{TargetExpr, out-TargetExpr}
use Rattle.bq_parse_grammar.specs.declared.tree.TopLevel.{TopLevel}
use Rattle.bq_parse_grammar.specs.Literals.{name_line}
use Rattle.bq_parse_grammar.specs.Targets.{ExprLayer, SuffixLayer}
use Rattle.bq_resolve_scope.specs.declared.universe.Namespace.{Namespace}
use Rattle.bq_resolve_scope.specs.Universe.{UniverseParts, member_named, namespace_named, universe_has}
use Rattle.bq_resolve_scope.specs.Names.{Name, TargetLayer, ClauseLayer, max_layers, has, with_name, with_each, with_target_to, with_small, with_load, with_load_clause, with_parameter, comprehension_names, function_names}
use Rattle.bq_resolve_scope.specs.Scope.{FileParts}
use Rattle.bq_resolve_scope.specs.Visit.{fault_of}
use Rattle.bq_resolve_scope.specs.Expressions.{is_bzl}
use Rattle.bq_resolve_scope.specs.Files.{file_names}

-- the first of these
abbrev pub first : {A : Type 0} → List A → Option A
first [] = None
first (x ∷ xs) = Some x

-- the faults of a part that may be missing
abbrev pub of_part : {A : Type 0} → (A → List (Fault NameFault)) → Option A → List (Fault NameFault)
of_part one None = []
of_part one (Some x) = one x

-- all of those of each, where the names so far count, and each adds its own
abbrev pub in_turn : {A S : Type 0} → (S → A → List (Fault NameFault)) → (S → A → S) → S → List A → List (Fault NameFault)
in_turn one add s [] = []
in_turn one add s (x ∷ xs) = one s x ++ in_turn one add (add s x) xs

-- a fault, where a rule is broken
abbrev pub when : Bool → Fault NameFault → List (Fault NameFault)
when true why = why ∷ []
when false why = []

-- a fault, unless a rule holds
abbrev pub unless : Bool → Fault NameFault → List (Fault NameFault)
unless holds why = when (not holds) why

-- a tree of too many layers; none that is parsed is one
abbrev pub too_deep : List (Fault NameFault)
too_deep = fault_at f.Nesting 0 ∷ []

-- a statement that may not stand on this line
abbrev pub misplaced_at : ℕ → List (Fault NameFault)
misplaced_at line = fault_at f.BadFlow line ∷ []

-- the names of the blocks around a place, innermost first
abbrev pub Around : Type 0
Around = List (List Name)

-- the names that a file bound before a place, and those that it loaded
pub record Before : Type 0 where
  pub bound : List Name
  pub loaded : List Name

-- before the first statement
abbrev pub nothing_before : Before
nothing_before = record { bound = []; loaded = [] }

-- what a statement outside functions binds and loads is bound and loaded after it
abbrev pub after_small : Before → SmallStmt → Before
after_small before x = record { bound = with_small before.bound x; loaded = with_load before.loaded x }

-- the names bound and loaded so far, behind a statement
unfoldable pub after : Before → TopLevel → Before
after before t = elim (out-Stmt t.statement) [
  | Stmt-F.Simple xs ↦ record { bound = with_each with_small before.bound xs; loaded = with_each with_load before.loaded xs }
  | Stmt-F.Def n ps body ↦ record before { bound = with_name before.bound n.name }
  | _ ↦ before
]

module _ (file : FileParts) where
  -- ---- F20: a name that nothing binds

  -- a block around it holds the name, or the file binds it, or loads it, or every file of its kind has it
  unfoldable pub is_known : Around → Name → Bool
  is_known around name = list_any (λ names. has names name) around || (has file.globals name || (has file.loaded name || is_some (universe_has file.universe name)))

  -- the use of a name that has no meaning
  unfoldable pub in_use : Around → Identifier → List (Fault NameFault)
  in_use around n = unless (is_known around n.name) (fault_of f.UnknownName n)

  -- `native.name(..)` where no build function and no rule has the name, or `attr.name(..)` where no type of attributes has it
  unfoldable pub in_member : Namespace → Identifier → List (Fault NameFault)
  in_member space n = unless (is_some (member_named space file.universe.rules n.name)) (fault_of f.UnknownName n)

  -- `native` and `attr` are namespaces in .bzl files that don't bind them
  abbrev pub as_namespace : Around → ExprLayer → Option Namespace
  as_namespace around (Expr-F.Expr::Name n) = if is_bzl file.universe.kind && not (is_known around n.name) then namespace_named n.name else None
  as_namespace around _ = None

  -- ---- F21 and F22: a name that is bound twice

  -- A statement outside functions binds the name: in a .bzl file no statement and no load before it may.
  unfoldable pub in_binding : Before → Identifier → List (Fault NameFault)
  in_binding before n = when (is_bzl file.universe.kind && (has before.bound n.name || has before.loaded n.name)) (fault_of f.Rebound n)

  -- A load binds the name: no load before it may, and in a .bzl file no statement.
  unfoldable pub in_load_clause : Before → LoadClause → List (Fault NameFault)
  in_load_clause before c =
      if has before.loaded c.local.name then fault_of f.BoundTwice c.local ∷ []
      else when (is_bzl file.universe.kind && has before.bound c.local.name) (fault_of f.Rebound c.local)

  -- ---- expressions: `inner` has those of the expressions in them

  module _ (inner : Around → Expr → List (Fault NameFault)) where
    -- a target in a block, whose names the block holds
    abbrev pub in_target_by : (TargetExpr → List (Fault NameFault)) → Around → TargetLayer → List (Fault NameFault)
    in_target_by of_one around (TargetExpr-F.TargetExpr::Name n) = []
    in_target_by of_one around (TargetExpr-F.TargetExpr::Index x i) = inner around x ++ inner around i
    in_target_by of_one around (TargetExpr-F.TargetExpr::Tuple ts) = flat_map of_one ts
    in_target_by of_one around (TargetExpr-F.TargetExpr::List ts) = flat_map of_one ts

    -- the faults in a target, down to a depth
    unfoldable pub in_target_to : ℕ → Around → TargetExpr → List (Fault NameFault)
    in_target_to zero around t = too_deep
    in_target_to (suc layers) around t = in_target_by (in_target_to layers around) around (out-TargetExpr t)

    -- the faults in a pair of a dict
    unfoldable pub in_pair : Around → Pair → List (Fault NameFault)
    in_pair around p = inner around (out-Pair p).key ++ inner around (out-Pair p).value

    -- the faults in a right operand
    unfoldable pub in_operation : Around → Operation → List (Fault NameFault)
    in_operation around o = inner around (out-Operation o).operand

    -- the faults in `x if c else ..`
    unfoldable pub in_choice : Around → Choice → List (Fault NameFault)
    in_choice around o = inner around (out-Choice o).value ++ inner around (out-Choice o).condition

    -- the faults in an argument, by its form
    abbrev pub in_argument_by : Around → Argument-F Argument Clause Expr Suffix TargetExpr Choice Operation Pair → List (Fault NameFault)
    in_argument_by around (Argument-F.Positional x) = inner around x
    in_argument_by around (Argument-F.Named name x) = inner around x
    in_argument_by around (Argument-F.Star x) = inner around x
    in_argument_by around (Argument-F.StarStar x) = inner around x

    -- the faults in the arguments of a call
    unfoldable pub in_arguments : Around → List Argument → List (Fault NameFault)
    in_arguments around xs = flat_map (λ x. in_argument_by around (out-Argument x)) xs

    -- the faults in a suffix, by its form
    abbrev pub in_suffix_by : Around → SuffixLayer → List (Fault NameFault)
    in_suffix_by around (Suffix-F.Call xs) = in_arguments around xs
    in_suffix_by around (Suffix-F.Method m xs) = in_arguments around xs
    in_suffix_by around (Suffix-F.Attribute m) = []
    in_suffix_by around (Suffix-F.Suffix::Index i) = inner around i
    in_suffix_by around (Suffix-F.Slice i j k) = of_part (inner around) i ++ (of_part (inner around) j ++ of_part (inner around) k)

    -- the faults in suffixes
    unfoldable pub in_suffixes : Around → List Suffix → List (Fault NameFault)
    in_suffixes around ss = flat_map (λ s. in_suffix_by around (out-Suffix s)) ss

    -- the faults in an operand and its suffixes
    unfoldable pub in_operand : Around → Expr → List Suffix → List (Fault NameFault)
    in_operand around x ss = inner around x ++ in_suffixes around ss

    -- the faults in a call of a namespace's member, and in what stands behind it
    abbrev pub in_method : Around → Namespace → Expr → List Suffix → List Suffix → SuffixLayer → List (Fault NameFault)
    in_method around space x ss rest (Suffix-F.Method m xs) = in_member space m ++ (in_arguments around xs ++ in_suffixes around rest)
    in_method around space x ss rest _ = in_operand around x ss

    -- an operand with suffixes, of which the first may call what a namespace holds, as a method of it
    abbrev pub in_primary_by : Around → Expr → Option Namespace → List Suffix → List (Fault NameFault)
    in_primary_by around x (Some space) (s ∷ ss) = in_method around space x (s ∷ ss) ss (out-Suffix s)
    in_primary_by around x _ ss = in_operand around x ss

    -- the faults in an operand with suffixes
    unfoldable pub in_primary : Around → Expr → List Suffix → List (Fault NameFault)
    in_primary around x ss = in_primary_by around x (as_namespace around (out-Expr x)) ss

    -- an iterable stands among `outer`, all else of a clause among `around`
    abbrev pub in_clause_by : Around → Around → ClauseLayer → List (Fault NameFault)
    in_clause_by outer around (Clause-F.For t x) = in_target_to max_layers around t ++ inner outer x
    in_clause_by outer around (Clause-F.If x) = inner around x

    -- the first iterable stands outside the comprehension, all others inside it
    unfoldable pub in_clauses : Around → Around → List Clause → List (Fault NameFault)
    in_clauses outer around [] = []
    in_clauses outer around (c ∷ cs) = in_clause_by outer around (out-Clause c) ++ flat_map (λ d. in_clause_by around around (out-Clause d)) cs

    -- the element stands before the clauses, and inside
    unfoldable pub in_comprehension : (Around → List (Fault NameFault)) → Around → List Clause → List (Fault NameFault)
    in_comprehension element around cs =
        let own : Around = comprehension_names cs ∷ around in element own ++ in_clauses around own cs

    -- the faults in an expression, by its form
    abbrev pub in_expr_by : Around → ExprLayer → List (Fault NameFault)
    in_expr_by around (Expr-F.Expr::Name n) = in_use around n
    in_expr_by around (Expr-F.Int i) = []
    in_expr_by around (Expr-F.String s) = []
    in_expr_by around (Expr-F.Expr::List xs) = flat_map (inner around) xs
    in_expr_by around (Expr-F.Expr::Tuple xs) = flat_map (inner around) xs
    in_expr_by around (Expr-F.Dict ps) = flat_map (in_pair around) ps
    in_expr_by around (Expr-F.ListComprehension x cs slots) = in_comprehension (λ own. inner own x) around cs
    in_expr_by around (Expr-F.DictComprehension p cs slots) = in_comprehension (λ own. in_pair own p) around cs
    in_expr_by around (Expr-F.Primary x ss) = in_primary around x ss
    in_expr_by around (Expr-F.Unary os x) = inner around x
    in_expr_by around (Expr-F.Binary x os) = inner around x ++ flat_map (in_operation around) os
    in_expr_by around (Expr-F.Compare x o y) = inner around x ++ inner around y
    in_expr_by around (Expr-F.Conditional cs x) = flat_map (in_choice around) cs ++ inner around x
    in_expr_by around Expr-F.Lambda = []

  -- the faults in an expression, down to a depth
  unfoldable pub in_expr_to : ℕ → Around → Expr → List (Fault NameFault)
  in_expr_to zero around x = too_deep
  in_expr_to (suc layers) around x = in_expr_by (in_expr_to layers) around (out-Expr x)

  -- the faults in an expression
  unfoldable pub in_expr : Around → Expr → List (Fault NameFault)
  in_expr around x = in_expr_to max_layers around x

  -- the faults in a target
  unfoldable pub in_target : Around → TargetExpr → List (Fault NameFault)
  in_target around t = in_target_to in_expr max_layers around t

  -- ---- F23: statements of functions; `looping` in a `for` of the function

  -- `load` stands outside functions, `break` and `continue` in loops
  abbrev pub in_small_by : Around → Bool → ℕ → SmallKind → List (Fault NameFault)
  in_small_by around looping line (small.Expr x) = in_expr around x
  in_small_by around looping line (small.Assign t x) = in_target around t ++ in_expr around x
  in_small_by around looping line (small.Augment t o x) = in_target around t ++ in_expr around x
  in_small_by around looping line (small.Return x) = of_part (in_expr around) x
  in_small_by around looping line small.Break = unless looping (fault_at f.BadFlow line)
  in_small_by around looping line small.Continue = unless looping (fault_at f.BadFlow line)
  in_small_by around looping line small.Pass = []
  in_small_by around looping line (small.Load l) = misplaced_at line

  -- the faults in a small statement
  unfoldable pub in_small : Around → Bool → SmallStmt → List (Fault NameFault)
  in_small around looping x = in_small_by around looping x.line x.kind

  -- the faults in a condition and its block
  unfoldable pub in_branch : (Stmt → List (Fault NameFault)) → Around → Branch → List (Fault NameFault)
  in_branch inner around b = in_expr around (out-Branch b).condition ++ flat_map inner (out-Branch b).block

  -- `def` stands outside functions
  abbrev pub in_stmt_by : (Bool → Stmt → List (Fault NameFault)) → Around → Bool → Stmt-F Stmt Branch → List (Fault NameFault)
  in_stmt_by inner around looping (Stmt-F.Simple xs) = flat_map (in_small around looping) xs
  in_stmt_by inner around looping (Stmt-F.If bs zs) = flat_map (in_branch (inner looping) around) bs ++ flat_map (inner looping) zs
  in_stmt_by inner around looping (Stmt-F.For t x body) = in_target around t ++ (in_expr around x ++ flat_map (inner true) body)
  in_stmt_by inner around looping (Stmt-F.Def n ps body) = misplaced_at (name_line n)

  -- the faults in a statement of a function, down to a depth
  unfoldable pub in_stmt_to : ℕ → Around → Bool → Stmt → List (Fault NameFault)
  in_stmt_to zero around looping x = too_deep
  in_stmt_to (suc layers) around looping x = in_stmt_by (in_stmt_to layers around) around looping (out-Stmt x)

  -- ---- F24: parameters

  -- a parameter whose name another one has
  abbrev pub in_parameter_name : List Name → Identifier → List (Fault NameFault)
  in_parameter_name names n = when (has names n.name) (fault_of f.DoubleParameter n)

  -- no two have one name; a default stands outside the function
  unfoldable pub in_parameter : List Name → Parameter → List (Fault NameFault)
  in_parameter names (parameter.Plain n) = in_parameter_name names n
  in_parameter names (parameter.Default n x) = in_parameter_name names n ++ in_expr [] x
  in_parameter names parameter.BareStar = []
  in_parameter names (parameter.Star n) = in_parameter_name names n
  in_parameter names (parameter.StarStar n) = in_parameter_name names n

  -- the faults in a function: in its parameters in turn, then in its body
  unfoldable pub in_function : List Parameter → List Stmt → List (Fault NameFault)
  in_function ps body =
      in_turn in_parameter with_parameter [] ps ++ flat_map (in_stmt_to max_layers (function_names ps body ∷ []) false) body

  -- ---- what stands outside functions

  -- a target there binds names of the file, one after the other
  abbrev pub in_file_target_by : (Before → TargetExpr → List (Fault NameFault)) → (List Name → TargetExpr → List Name) → Before → TargetLayer → List (Fault NameFault)
  in_file_target_by of_one add before (TargetExpr-F.TargetExpr::Name n) = in_binding before n
  in_file_target_by of_one add before (TargetExpr-F.TargetExpr::Index x i) = in_expr [] x ++ in_expr [] i
  in_file_target_by of_one add before (TargetExpr-F.TargetExpr::Tuple ts) = in_turn of_one (λ b t. record b { bound = add b.bound t }) before ts
  in_file_target_by of_one add before (TargetExpr-F.TargetExpr::List ts) = in_turn of_one (λ b t. record b { bound = add b.bound t }) before ts

  -- the faults in a target at the top level, down to a depth
  unfoldable pub in_file_target_to : ℕ → Before → TargetExpr → List (Fault NameFault)
  in_file_target_to zero before t = too_deep
  in_file_target_to (suc layers) before t = in_file_target_by (in_file_target_to layers) (with_target_to layers) before (out-TargetExpr t)

  -- the faults in a target at the top level
  unfoldable pub in_file_target : Before → TargetExpr → List (Fault NameFault)
  in_file_target before t = in_file_target_to max_layers before t

  -- `return` stands in functions, and `break` and `continue` in loops of functions
  abbrev pub in_file_small_by : Before → ℕ → SmallKind → List (Fault NameFault)
  in_file_small_by before line (small.Expr x) = in_expr [] x
  in_file_small_by before line (small.Assign t x) = in_file_target before t ++ in_expr [] x
  in_file_small_by before line (small.Augment t o x) = in_file_target before t ++ in_expr [] x
  in_file_small_by before line (small.Return x) = misplaced_at line
  in_file_small_by before line small.Break = misplaced_at line
  in_file_small_by before line small.Continue = misplaced_at line
  in_file_small_by before line small.Pass = []
  in_file_small_by before line (small.Load l) = in_turn in_load_clause (λ b c. record b { loaded = with_load_clause b.loaded c }) before l.clauses

  -- the faults in a small statement at the top level
  unfoldable pub in_file_small : Before → SmallStmt → List (Fault NameFault)
  in_file_small before x = in_file_small_by before x.line x.kind

  -- `if` and `for` stand in functions
  abbrev pub in_top_level_by : Before → ℕ → Stmt-F Stmt Branch → List (Fault NameFault)
  in_top_level_by before line (Stmt-F.Simple xs) = in_turn in_file_small after_small before xs
  in_top_level_by before line (Stmt-F.If bs zs) = misplaced_at line
  in_top_level_by before line (Stmt-F.For t x body) = misplaced_at line
  in_top_level_by before line (Stmt-F.Def n ps body) = in_binding before n ++ in_function ps body

  -- the faults in a statement at the top level
  unfoldable pub in_top_level : Before → TopLevel → List (Fault NameFault)
  in_top_level before t = in_top_level_by before t.line (out-Stmt t.statement)

-- all that a file breaks
unfoldable pub violations : UniverseParts → List TopLevel → List (Fault NameFault)
violations universe ts = let file : FileParts = file_names universe ts in in_turn (in_top_level file) after nothing_before ts
