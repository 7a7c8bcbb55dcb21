-- How many slots a frame must have for the trees that run in it: one more than the greatest slot of them, 0 where they have none.
use Rattle.std.specs.Prelude.{◌≡◌, ◌≤◌, ℕ, ◌+◌, ◌^◌, max, List, [], ◌∷◌, map, Option, Some, None, Ok, nat_lt, if◌then◌else◌}
use Rattle.std.specs.List.{AllByRecursion}
use Rattle.bq_parse_grammar.specs.declared.tree.Argument.TheFolds.{fold-Argument, fold-Choice, fold-Clause, fold-Expr, fold-Operation, fold-Pair, fold-Suffix, fold-TargetExpr}
use Rattle.bq_parse_grammar.specs.declared.tree.Argument.TheOpen.{Argument-F, Choice-F, Clause-F, Expr-F, Operation-F, Pair-F, Suffix-F, TargetExpr-F}
use Rattle.bq_parse_grammar.specs.declared.tree.Argument.{Argument}
use Rattle.bq_parse_grammar.specs.declared.tree.Branch.{Branch}
use Rattle.bq_parse_grammar.specs.declared.tree.Choice.{Choice}
use Rattle.bq_parse_grammar.specs.declared.tree.Clause.{Clause}
use Rattle.bq_parse_grammar.specs.declared.tree.ComprehensionFrame.{ComprehensionFrame}
use Rattle.bq_parse_grammar.specs.declared.tree.ComprehensionFrame.TheVariants as frame
use Rattle.bq_parse_grammar.specs.declared.tree.Expr.{Expr}
use Rattle.bq_parse_grammar.specs.declared.tree.Operation.{Operation}
use Rattle.bq_parse_grammar.specs.declared.tree.Pair.{Pair}
use Rattle.bq_parse_grammar.specs.declared.tree.Referent.{Referent}
use Rattle.bq_parse_grammar.specs.declared.tree.Referent.TheVariants as b
use Rattle.bq_parse_grammar.specs.declared.tree.SmallKind.{SmallKind}
use Rattle.bq_parse_grammar.specs.declared.tree.SmallKind.TheVariants as small
use Rattle.bq_parse_grammar.specs.declared.tree.SmallStmt.{SmallStmt}
use Rattle.bq_parse_grammar.specs.declared.tree.Stmt.{Stmt}
use Rattle.bq_parse_grammar.specs.declared.tree.Stmt.TheFolds.{fold-Branch, fold-Stmt}
use Rattle.bq_parse_grammar.specs.declared.tree.Stmt.TheOpen.{Branch-F, Stmt-F}
use Rattle.bq_parse_grammar.specs.declared.tree.Suffix.{Suffix}
use Rattle.bq_parse_grammar.specs.declared.tree.TargetExpr.{TargetExpr}
use Rattle.bq_parse_grammar.specs.declared.tree.TopLevel.{TopLevel}
use Rattle.bq_resolve_scope.specs.declared.file.FileLine.{FileLine}
use Rattle.bq_resolve_scope.specs.declared.file.Formal.{Formal}
use Rattle.bq_resolve_scope.specs.declared.file.Formal.TheVariants as formal
use Rattle.bq_resolve_scope.specs.declared.file.Function.{Function}
use Rattle.bq_resolve_scope.specs.declared.file.Outside.{Outside}
use Rattle.bq_resolve_scope.specs.declared.file.Outside.TheVariants as file
use Rattle.bq_resolve_scope.specs.declared.file.ResolvedFile.{ResolvedFile}
use Rattle.bq_resolve_scope.specs.Universe.{UniverseParts}
use Rattle.bq_resolve_scope.specs.Files.{resolved}

-- of all of these
abbrev pub most : List ℕ → ℕ
most [] = 0
most (n ∷ ns) = max n (most ns)

-- of a part that may be missing
abbrev pub optional_slots : Option ℕ → ℕ
optional_slots None = 0
optional_slots (Some n) = n

-- a slot and all below it; what is not in the frame needs none
abbrev pub referent_slots : Referent → ℕ
referent_slots (b.Local slot) = slot + 1
referent_slots _ = 0

-- Slots are counted by 64 bits: no frame has that many.
abbrev pub too_many : ℕ
too_many = 2 ^ 64

-- A comprehension with a frame of its own needs no slot of the enclosing frame. Where its own is too small for it, none is large enough.
abbrev pub framed_slots : ℕ → ℕ → ℕ
framed_slots slots n = if nat_lt slots n then too_many else 0

-- ---- comprehensions

-- what a clause needs: its iterable, and all else of it
pub record ClauseSlots : Type 0 where
  pub iterable : ℕ
  pub rest : ℕ

-- of a whole clause
abbrev pub both_slots : ClauseSlots → ℕ
both_slots x = max x.iterable x.rest

-- the first iterable, which is read in the frame around
abbrev pub outer_slots : List ClauseSlots → ℕ
outer_slots [] = 0
outer_slots (x ∷ xs) = x.iterable

-- all else of the clauses
abbrev pub inner_slots : List ClauseSlots → ℕ
inner_slots [] = 0
inner_slots (x ∷ xs) = max x.rest (most (map both_slots xs))

-- what needs so many slots in a comprehension needs these of the frame around
abbrev pub own_slots : ComprehensionFrame → ℕ → ℕ
own_slots frame.Shared n = n
own_slots (frame.Own slots) n = framed_slots slots n

-- a comprehension, whose element needs `n`: its first iterable is read in the frame around
abbrev pub comprehension_slots : ComprehensionFrame → ℕ → List ClauseSlots → ℕ
comprehension_slots own n xs = max (outer_slots xs) (own_slots own (max n (inner_slots xs)))

-- ---- one node, with what each child needs in its place

-- an argument, by its form
abbrev pub argument_step : Argument-F ℕ ClauseSlots ℕ ℕ ℕ ℕ ℕ ℕ → ℕ
argument_step (Argument-F.Positional n) = n
argument_step (Argument-F.Named b n) = n
argument_step (Argument-F.Star n) = n
argument_step (Argument-F.StarStar n) = n

-- a clause, by its form
abbrev pub clause_step : Clause-F ℕ ClauseSlots ℕ ℕ ℕ ℕ ℕ ℕ → ClauseSlots
clause_step (Clause-F.For m n) = record { iterable = n; rest = m }
clause_step (Clause-F.If n) = record { iterable = 0; rest = n }

-- an expression, by its form
abbrev pub expr_step : Expr-F ℕ ClauseSlots ℕ ℕ ℕ ℕ ℕ ℕ → ℕ
expr_step (Expr-F.Expr::Name n) = referent_slots n.referent
expr_step (Expr-F.Int i) = 0
expr_step (Expr-F.String s) = 0
expr_step (Expr-F.Expr::List ns) = most ns
expr_step (Expr-F.Expr::Tuple ns) = most ns
expr_step (Expr-F.Dict ns) = most ns
expr_step (Expr-F.ListComprehension n xs own) = comprehension_slots own n xs
expr_step (Expr-F.DictComprehension n xs own) = comprehension_slots own n xs
expr_step (Expr-F.Primary m ns) = max m (most ns)
expr_step (Expr-F.Unary os n) = n
expr_step (Expr-F.Binary m ns) = max m (most ns)
expr_step (Expr-F.Compare m o n) = max m n
expr_step (Expr-F.Conditional ms n) = max (most ms) n
expr_step Expr-F.Lambda = 0

-- a suffix, by its form
abbrev pub suffix_step : Suffix-F ℕ ClauseSlots ℕ ℕ ℕ ℕ ℕ ℕ → ℕ
suffix_step (Suffix-F.Call ns) = most ns
suffix_step (Suffix-F.Method m ns) = most ns
suffix_step (Suffix-F.Attribute m) = 0
suffix_step (Suffix-F.Suffix::Index n) = n
suffix_step (Suffix-F.Slice l m n) = max (optional_slots l) (max (optional_slots m) (optional_slots n))

-- a target, by its form
abbrev pub target_step : TargetExpr-F ℕ ClauseSlots ℕ ℕ ℕ ℕ ℕ ℕ → ℕ
target_step (TargetExpr-F.TargetExpr::Name n) = referent_slots n.referent
target_step (TargetExpr-F.TargetExpr::Index m n) = max m n
target_step (TargetExpr-F.TargetExpr::Tuple ns) = most ns
target_step (TargetExpr-F.TargetExpr::List ns) = most ns

-- `value if condition`
abbrev pub choice_step : Choice-F ℕ ClauseSlots ℕ ℕ ℕ ℕ ℕ ℕ → ℕ
choice_step x = max x.value x.condition

-- an operator and its right operand
abbrev pub operation_step : Operation-F ℕ ClauseSlots ℕ ℕ ℕ ℕ ℕ ℕ → ℕ
operation_step x = x.operand

-- a pair of a dict
abbrev pub pair_step : Pair-F ℕ ClauseSlots ℕ ℕ ℕ ℕ ℕ ℕ → ℕ
pair_step x = max x.key x.value

-- ---- whole trees, of each kind

-- how many slots an argument needs
abbrev pub argument_slots : Argument → ℕ
argument_slots = fold-Argument ℕ ClauseSlots ℕ ℕ ℕ ℕ ℕ ℕ argument_step clause_step expr_step suffix_step target_step choice_step operation_step pair_step

-- how many slots the iterable of a clause needs, and how many all else of it
abbrev pub clause_slots : Clause → ClauseSlots
clause_slots = fold-Clause ℕ ClauseSlots ℕ ℕ ℕ ℕ ℕ ℕ argument_step clause_step expr_step suffix_step target_step choice_step operation_step pair_step

-- how many slots an expression needs in the frame that it is evaluated in
abbrev pub expr_slots : Expr → ℕ
expr_slots = fold-Expr ℕ ClauseSlots ℕ ℕ ℕ ℕ ℕ ℕ argument_step clause_step expr_step suffix_step target_step choice_step operation_step pair_step

-- how many slots a call, a method, an attribute, an index or a slice after an operand needs
abbrev pub suffix_slots : Suffix → ℕ
suffix_slots = fold-Suffix ℕ ClauseSlots ℕ ℕ ℕ ℕ ℕ ℕ argument_step clause_step expr_step suffix_step target_step choice_step operation_step pair_step

-- how many slots a target of an assignment needs
abbrev pub target_slots : TargetExpr → ℕ
target_slots = fold-TargetExpr ℕ ClauseSlots ℕ ℕ ℕ ℕ ℕ ℕ argument_step clause_step expr_step suffix_step target_step choice_step operation_step pair_step

-- how many slots `value if condition else` needs
abbrev pub choice_slots : Choice → ℕ
choice_slots = fold-Choice ℕ ClauseSlots ℕ ℕ ℕ ℕ ℕ ℕ argument_step clause_step expr_step suffix_step target_step choice_step operation_step pair_step

-- how many slots an operator and its right operand need
abbrev pub operation_slots : Operation → ℕ
operation_slots = fold-Operation ℕ ClauseSlots ℕ ℕ ℕ ℕ ℕ ℕ argument_step clause_step expr_step suffix_step target_step choice_step operation_step pair_step

-- how many slots a key and its value in a dict need
abbrev pub pair_slots : Pair → ℕ
pair_slots = fold-Pair ℕ ClauseSlots ℕ ℕ ℕ ℕ ℕ ℕ argument_step clause_step expr_step suffix_step target_step choice_step operation_step pair_step

-- ---- statements

-- a small statement, by its form
abbrev pub kind_slots : SmallKind → ℕ
kind_slots (small.Expr x) = expr_slots x
kind_slots (small.Assign t x) = max (target_slots t) (expr_slots x)
kind_slots (small.Augment t o x) = max (target_slots t) (expr_slots x)
kind_slots (small.Return (Some x)) = expr_slots x
kind_slots _ = 0

-- a small statement
abbrev pub small_slots : SmallStmt → ℕ
small_slots x = kind_slots x.kind

-- no function stands in a function
abbrev pub stmt_step : Stmt-F ℕ ℕ → ℕ
stmt_step (Stmt-F.Simple xs) = most (map small_slots xs)
stmt_step (Stmt-F.If ms ns) = max (most ms) (most ns)
stmt_step (Stmt-F.For t x ns) = max (target_slots t) (max (expr_slots x) (most ns))
stmt_step (Stmt-F.Def n ps ns) = too_many

-- a condition and its block
abbrev pub branch_step : Branch-F ℕ ℕ → ℕ
branch_step x = max (expr_slots x.condition) (most x.block)

-- a statement of a function
abbrev pub stmt_slots : Stmt → ℕ
stmt_slots = fold-Stmt ℕ ℕ stmt_step branch_step

-- the same of a branch
abbrev pub branch_slots : Branch → ℕ
branch_slots = fold-Branch ℕ ℕ stmt_step branch_step

-- a parameter is in the slot of its name; its default stands outside the function
abbrev pub parameter_slots : Formal → ℕ
parameter_slots (formal.Plain n) = referent_slots n.referent
parameter_slots (formal.Default n) = referent_slots n.referent
parameter_slots formal.BareStar = 0
parameter_slots (formal.Star n) = referent_slots n.referent
parameter_slots (formal.StarStar n) = referent_slots n.referent

-- ---- files

-- the frame of a function has all slots of its parameters and statements
pub record FitsItsFrame (f : Function) : Type 0 where
  pub parameters : most (map parameter_slots f.parameters) ≤ f.slots
  pub body : most (map stmt_slots f.body) ≤ f.slots

-- what stands on a line outside functions, by its form
abbrev pub file_stmt_slots : Outside → ℕ
file_stmt_slots (file.Simple xs) = most (map small_slots xs)
file_stmt_slots (file.Def d) = max (referent_slots d.name.referent) (most (map expr_slots d.defaults))

-- a line outside functions
abbrev pub top_level_slots : FileLine → ℕ
top_level_slots t = file_stmt_slots t.statement

-- Every slot of a resolved file is below the number of slots of its frame: those of a function below the function's, and outside
-- functions there are slots in comprehensions alone, each below the number of its comprehension's frame.
abbrev pub SlotsAreBelow : ResolvedFile → Type 0
SlotsAreBelow r = AllByRecursion FitsItsFrame r.functions × (most (map top_level_slots r.statements) ≡ 0)

-- so are those of each file that resolves
abbrev pub EverySlotIsBelow : Type 0
EverySlotIsBelow = (universe : UniverseParts) (ts : List TopLevel) (r : ResolvedFile) → resolved universe ts ≡ Ok r → SlotsAreBelow r
