-- What a statement resolves to, in the order of its text, and what stands where it may not (F23).
use Rattle.std.specs.Prelude.{ℕ, zero, suc, List, [], ◌∷◌, ◌++◌, length, Bool, true, false, ◌&&◌, Option, Result, Ok, Err, if◌then◌else◌}
use Rattle.bq_base.specs.declared.fault.NameFault.{NameFault}
use Rattle.bq_base.specs.declared.fault.Fault.{Fault}
use Rattle.bq_base.specs.declared.fault.NameFault.TheVariants as f
use Rattle.bq_base.specs.Fault.{fault_at}
use Rattle.bq_parse_grammar.specs.declared.tree.Branch.{Branch, out-Branch, roll-Branch}
use Rattle.bq_parse_grammar.specs.declared.tree.Expr.{Expr}
use Rattle.bq_parse_grammar.specs.declared.tree.Identifier.{Identifier}
use Rattle.bq_parse_grammar.specs.declared.tree.Load.{Load}
use Rattle.bq_parse_grammar.specs.declared.tree.LoadClause.{LoadClause}
use Rattle.bq_parse_grammar.specs.declared.tree.Operator.{Operator}
use Rattle.bq_parse_grammar.specs.declared.tree.Parameter.{Parameter}
use Rattle.bq_parse_grammar.specs.declared.tree.Parameter.TheVariants as parameter
use Rattle.bq_parse_grammar.specs.declared.tree.SmallKind.{SmallKind}
use Rattle.bq_parse_grammar.specs.declared.tree.SmallKind.TheVariants as small
use Rattle.bq_parse_grammar.specs.declared.tree.SmallStmt.{SmallStmt}
use Rattle.bq_parse_grammar.specs.declared.tree.Stmt.{Stmt, out-Stmt}
use Rattle.bq_parse_grammar.specs.declared.tree.Stmt.TheOpen.{Stmt-F}
use Rattle.bq_parse_grammar.specs.declared.tree.Stmt.TheVariants as s
use Rattle.bq_parse_grammar.specs.declared.tree.Referent.TheVariants as b
use Rattle.bq_parse_grammar.specs.declared.tree.TargetExpr.{TargetExpr}
use Rattle.bq_parse_grammar.specs.Literals.{name_line}
use Rattle.bq_resolve_scope.specs.declared.file.Formal.{Formal}
use Rattle.bq_resolve_scope.specs.declared.file.Formal.TheVariants as formal
use Rattle.bq_resolve_scope.specs.declared.loads.LoadedSymbol.{LoadedSymbol}
use Rattle.bq_resolve_scope.specs.Names.{Name, max_layers, has, with_name, place_among}
use Rattle.bq_resolve_scope.specs.Scope.{BlockParts, FileParts}
use Rattle.bq_resolve_scope.specs.Visit.{Passed, Visit, ◌>>=◌, pure, stop, fault_of, each, optional}
use Rattle.bq_resolve_scope.specs.Expressions.{is_bzl, refer, target_to, expr_to}

-- what stands where it may not
abbrev pub misplaced : {A : Type 0} → ℕ → Visit A
misplaced line = stop (fault_at f.BadFlow line)

-- a function's parameters: their names, which have its first slots, what they resolve to, and their defaults
pub record ParameterParts : Type 0 where
  pub names : List Name
  pub parameters : List Formal
  pub defaults : List Expr

-- before the first parameter
abbrev pub no_parameters : ParameterParts
no_parameters = record { names = []; parameters = []; defaults = [] }

module _ (file : FileParts) where
  -- an expression among blocks
  unfoldable pub expr : List BlockParts → Expr → Visit Expr
  expr blocks x = expr_to max_layers file blocks x

  -- a target among blocks
  unfoldable pub target : List BlockParts → TargetExpr → Visit TargetExpr
  target blocks t = target_to file (expr_to max_layers file) max_layers blocks t

  -- ---- loads

  -- A name of two load clauses is F22; in a .bzl file one that the file bound before is F21.
  unfoldable pub load_clause : LoadClause → Visit LoadedSymbol
  load_clause x p =
      if has p.loaded x.local.name then Err (fault_of f.BoundTwice x.local)
      else (if is_bzl file.universe.kind && has p.bound x.local.name then Err (fault_of f.Rebound x.local)
      else Ok (record { local = x.local.name; symbol = x.symbol; global = place_among x.local.name file.globals }, record p { loaded = with_name p.loaded x.local.name }))

  -- a load joins those of the file
  abbrev pub with_load : ℕ → Load → List LoadedSymbol → Visit (Unit {0})
  with_load line l xs = λ p. Ok (tt, record p { loads = p.loads ++ record { label = l.label; line = line; clauses = xs } ∷ [] })

  -- a load statement
  unfoldable pub load : ℕ → Load → Visit SmallKind
  load line l = each load_clause [] l.clauses >>= λ xs. with_load line l xs >>= λ _. pure (small.Load l)

  -- ---- small statements: `looping` inside a `for` of the function

  -- `t = x`: the target comes first
  unfoldable pub assign : List BlockParts → TargetExpr → Expr → Visit SmallKind
  assign blocks t x = target blocks t >>= λ u. expr blocks x >>= λ y. pure (small.Assign u y)

  -- `t += x`
  unfoldable pub augment : List BlockParts → TargetExpr → Operator → Expr → Visit SmallKind
  augment blocks t o x = target blocks t >>= λ u. expr blocks x >>= λ y. pure (small.Augment u o y)

  -- `return` is allowed in functions alone
  unfoldable pub returned : List BlockParts → ℕ → Option Expr → Visit SmallKind
  returned [] line x = misplaced line
  returned (b ∷ bs) line x = optional (expr (b ∷ bs)) x >>= λ y. pure (small.Return y)

  -- `load` is allowed outside functions alone
  unfoldable pub load_in : List BlockParts → ℕ → Load → Visit SmallKind
  load_in [] line l = load line l
  load_in (b ∷ bs) line l = misplaced line

  -- `break` and `continue` are allowed in loops alone
  unfoldable pub in_loop : Bool → ℕ → SmallKind → Visit SmallKind
  in_loop true line x = pure x
  in_loop false line x = misplaced line

  -- a small statement, by its form
  abbrev pub small_by : List BlockParts → Bool → ℕ → SmallKind → Visit SmallKind
  small_by blocks looping line (small.Expr x) = expr blocks x >>= λ y. pure (small.Expr y)
  small_by blocks looping line (small.Assign t x) = assign blocks t x
  small_by blocks looping line (small.Augment t o x) = augment blocks t o x
  small_by blocks looping line (small.Return x) = returned blocks line x
  small_by blocks looping line small.Break = in_loop looping line small.Break
  small_by blocks looping line small.Continue = in_loop looping line small.Continue
  small_by blocks looping line small.Pass = pure small.Pass
  small_by blocks looping line (small.Load l) = load_in blocks line l

  -- a small statement
  unfoldable pub small_stmt : List BlockParts → Bool → SmallStmt → Visit SmallStmt
  small_stmt blocks looping x = small_by blocks looping x.line x.kind >>= λ k. pure (record x { kind = k })

  -- ---- statements of a function: `inner` resolves those in blocks

  -- a condition and its block
  unfoldable pub branch : (Stmt → Visit Stmt) → List BlockParts → Branch → Visit Branch
  branch inner blocks b = expr blocks (out-Branch b).condition >>= λ x. each inner [] (out-Branch b).block >>= λ ys. pure (roll-Branch (record { condition = x; block = ys }))

  -- an `if`, its branches in turn
  unfoldable pub if_stmt : (Stmt → Visit Stmt) → List BlockParts → List Branch → List Stmt → Visit Stmt
  if_stmt inner blocks bs zs = each (branch inner blocks) [] bs >>= λ xs. each inner [] zs >>= λ ys. pure (s.If xs ys)

  -- a loop: its target, its iterable, its body
  unfoldable pub for_stmt : (Stmt → Visit Stmt) → List BlockParts → TargetExpr → Expr → List Stmt → Visit Stmt
  for_stmt inner blocks t x body = target blocks t >>= λ u. expr blocks x >>= λ y. each inner [] body >>= λ zs. pure (s.For u y zs)

  -- a `def` in a `def` is left out before names are looked at
  abbrev pub stmt_by : (Bool → Stmt → Visit Stmt) → List BlockParts → Bool → Stmt-F Stmt Branch → Visit Stmt
  stmt_by inner blocks looping (Stmt-F.Simple xs) = each (small_stmt blocks looping) [] xs >>= λ ys. pure (s.Simple ys)
  stmt_by inner blocks looping (Stmt-F.If bs zs) = if_stmt (inner looping) blocks bs zs
  stmt_by inner blocks looping (Stmt-F.For t x body) = for_stmt (inner true) blocks t x body
  stmt_by inner blocks looping (Stmt-F.Def n ps body) = misplaced (name_line n)

  -- a statement that is at most this many layers deep; no tree that is parsed holds a deeper one
  unfoldable pub stmt_to : ℕ → List BlockParts → Bool → Stmt → Visit Stmt
  stmt_to zero blocks looping x = stop (fault_at f.Nesting 0)
  stmt_to (suc depth) blocks looping x = stmt_by (stmt_to depth blocks) blocks looping (out-Stmt x)

  -- ---- functions

  -- A parameter takes the next slot; two of one name are F24.
  unfoldable pub named_parameter : ParameterParts → Identifier → Formal → Visit ParameterParts
  named_parameter l n x =
      if has l.names n.name then stop (fault_of f.DoubleParameter n) else pure (record l { names = l.names ++ n.name ∷ []; parameters = l.parameters ++ x ∷ [] })

  -- A default lies outside the function.
  unfoldable pub default_parameter : ParameterParts → Identifier → Expr → Visit ParameterParts
  default_parameter l n x =
      named_parameter l n (formal.Default (refer n (b.Local (length l.names)))) >>= λ m. expr [] x >>= λ y. pure (record m { defaults = m.defaults ++ y ∷ [] })

  -- the parameters so far, and this one
  unfoldable pub next_parameter : ParameterParts → Parameter → Visit ParameterParts
  next_parameter l (parameter.Plain n) = named_parameter l n (formal.Plain (refer n (b.Local (length l.names))))
  next_parameter l (parameter.Default n x) = default_parameter l n x
  next_parameter l parameter.BareStar = pure (record l { parameters = l.parameters ++ formal.BareStar ∷ [] })
  next_parameter l (parameter.Star n) = named_parameter l n (formal.Star (refer n (b.Local (length l.names))))
  next_parameter l (parameter.StarStar n) = named_parameter l n (formal.StarStar (refer n (b.Local (length l.names))))

  -- the parameters so far, and all of those
  unfoldable pub parameters : ParameterParts → List Parameter → Visit ParameterParts
  parameters l [] = pure l
  parameters l (p ∷ ps) = next_parameter l p >>= λ m. parameters m ps

  -- a function's statements, among its own names
  abbrev pub statements_in : List Name → List Stmt → Visit (List Stmt)
  statements_in names body = each (stmt_to max_layers (record { base = 0; names = names } ∷ []) false) [] body

  -- a function joins those of the file; its number is its place there
  abbrev pub with_function : Name → List Formal → ℕ → Result (List Stmt × Passed) (Fault NameFault) → Result (ℕ × Passed) (Fault NameFault)
  with_function name ps slots (Err why) = Err why
  with_function name ps slots (Ok r) =
      Ok (length r.1.functions, record r.1 { slots = slots; functions = r.1.functions ++ record { name = name; parameters = ps; slots = r.1.slots; body = r.0 } ∷ [] })

  -- a function of the file, which has a frame of its own: its number
  unfoldable pub function : Name → List Formal → List Name → List Stmt → Visit ℕ
  function name ps names body p = with_function name ps p.slots (statements_in names body (record p { slots = length names }))
