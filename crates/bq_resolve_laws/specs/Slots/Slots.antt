-- The slots that stand in the resolved body of a function, in the order of its text: of uses, and of what is assigned to.
use Rattle.std.specs.Prelude.{ℕ, List, [], ◌∷◌, ◌++◌, map, Option, Some, None}
use Rattle.bq_parse_grammar.specs.declared.tree.Argument.TheFolds.{fold-Argument, fold-Choice, fold-Clause, fold-Expr, fold-Operation, fold-Pair, fold-Suffix, fold-TargetExpr}
use Rattle.bq_parse_grammar.specs.declared.tree.Argument.TheOpen.{Argument-F, Choice-F, Clause-F, Expr-F, Operation-F, Pair-F, Suffix-F, TargetExpr-F}
use Rattle.bq_parse_grammar.specs.declared.tree.Argument.{Argument}
use Rattle.bq_parse_grammar.specs.declared.tree.Choice.{Choice}
use Rattle.bq_parse_grammar.specs.declared.tree.Clause.{Clause}
use Rattle.bq_parse_grammar.specs.declared.tree.ComprehensionFrame.{ComprehensionFrame}
use Rattle.bq_parse_grammar.specs.declared.tree.ComprehensionFrame.TheVariants as frame
use Rattle.bq_parse_grammar.specs.declared.tree.Expr.{Expr}
use Rattle.bq_parse_grammar.specs.declared.tree.Identifier.{Identifier}
use Rattle.bq_parse_grammar.specs.declared.tree.Operation.{Operation}
use Rattle.bq_parse_grammar.specs.declared.tree.Pair.{Pair}
use Rattle.bq_parse_grammar.specs.declared.tree.Referent.{Referent}
use Rattle.bq_parse_grammar.specs.declared.tree.Referent.TheVariants as b
use Rattle.bq_parse_grammar.specs.declared.tree.Suffix.{Suffix}
use Rattle.bq_parse_grammar.specs.declared.tree.TargetExpr.{TargetExpr}
use Rattle.bq_parse_grammar.specs.declared.tree.Branch.{Branch}
use Rattle.bq_parse_grammar.specs.declared.tree.SmallKind.{SmallKind}
use Rattle.bq_parse_grammar.specs.declared.tree.SmallKind.TheVariants as small
use Rattle.bq_parse_grammar.specs.declared.tree.SmallStmt.{SmallStmt}
use Rattle.bq_parse_grammar.specs.declared.tree.Stmt.{Stmt}
use Rattle.bq_parse_grammar.specs.declared.tree.Stmt.TheFolds.{fold-Branch, fold-Stmt}
use Rattle.bq_parse_grammar.specs.declared.tree.Stmt.TheOpen.{Branch-F, Stmt-F}

-- of all of these
abbrev pub all : List (List ℕ) → List ℕ
all [] = []
all (n ∷ ns) = n ++ all ns

-- the slots of a part that may be missing; none where it is
abbrev pub optional_slots : Option (List ℕ) → List ℕ
optional_slots None = []
optional_slots (Some n) = n

-- the slot alone, for a name of the function or of a comprehension; none for any other
abbrev pub referent_slots : Referent → List ℕ
referent_slots (b.Local slot) = slot ∷ []
referent_slots _ = []

-- the slot of a name that is resolved; none where the name isn't in the frame
abbrev pub name_slots : Identifier → List ℕ
name_slots n = referent_slots n.referent

-- of a comprehension in whose parts these stand: one with a frame of its own has no slot of the enclosing frame
abbrev pub comprehension_slots : ComprehensionFrame → List ℕ → List ℕ
comprehension_slots frame.Shared ns = ns
comprehension_slots (frame.Own count) ns = []

-- ---- one node, with the slots of each child in its place

-- an argument has the slots of its value
abbrev pub argument_step : Argument-F (List ℕ) (List ℕ) (List ℕ) (List ℕ) (List ℕ) (List ℕ) (List ℕ) (List ℕ) → List ℕ
argument_step (Argument-F.Positional n) = n
argument_step (Argument-F.Named name n) = n
argument_step (Argument-F.Star n) = n
argument_step (Argument-F.StarStar n) = n

-- a `for` has the slots of its target and then those of its iterable, an `if` those of its condition
abbrev pub clause_step : Clause-F (List ℕ) (List ℕ) (List ℕ) (List ℕ) (List ℕ) (List ℕ) (List ℕ) (List ℕ) → List ℕ
clause_step (Clause-F.For m n) = m ++ n
clause_step (Clause-F.If n) = n

-- `value if condition else` has the slots of the value and then those of the condition
abbrev pub choice_step : Choice-F (List ℕ) (List ℕ) (List ℕ) (List ℕ) (List ℕ) (List ℕ) (List ℕ) (List ℕ) → List ℕ
choice_step x = x.value ++ x.condition

-- an operator with its right operand has the slots of that operand
abbrev pub operation_step : Operation-F (List ℕ) (List ℕ) (List ℕ) (List ℕ) (List ℕ) (List ℕ) (List ℕ) (List ℕ) → List ℕ
operation_step x = x.operand

-- an entry of a dict has the slots of its key and then those of its value
abbrev pub pair_step : Pair-F (List ℕ) (List ℕ) (List ℕ) (List ℕ) (List ℕ) (List ℕ) (List ℕ) (List ℕ) → List ℕ
pair_step x = x.key ++ x.value

-- a method's name has no slot, also where it is a namespace's member
abbrev pub suffix_step : Suffix-F (List ℕ) (List ℕ) (List ℕ) (List ℕ) (List ℕ) (List ℕ) (List ℕ) (List ℕ) → List ℕ
suffix_step (Suffix-F.Call ns) = all ns
suffix_step (Suffix-F.Method name ns) = all ns
suffix_step (Suffix-F.Attribute name) = []
suffix_step (Suffix-F.Suffix::Index n) = n
suffix_step (Suffix-F.Slice l m n) = optional_slots l ++ (optional_slots m ++ optional_slots n)

-- a target has its name's slot, or those of all in it
abbrev pub target_step : TargetExpr-F (List ℕ) (List ℕ) (List ℕ) (List ℕ) (List ℕ) (List ℕ) (List ℕ) (List ℕ) → List ℕ
target_step (TargetExpr-F.TargetExpr::Name name) = name_slots name
target_step (TargetExpr-F.TargetExpr::Index m n) = m ++ n
target_step (TargetExpr-F.TargetExpr::Tuple ns) = all ns
target_step (TargetExpr-F.TargetExpr::List ns) = all ns

-- an expression has its name's slot, or those of all in it; none for a literal or `lambda`
abbrev pub expr_step : Expr-F (List ℕ) (List ℕ) (List ℕ) (List ℕ) (List ℕ) (List ℕ) (List ℕ) (List ℕ) → List ℕ
expr_step (Expr-F.Expr::Name name) = name_slots name
expr_step (Expr-F.Int i) = []
expr_step (Expr-F.String s) = []
expr_step (Expr-F.Expr::List ns) = all ns
expr_step (Expr-F.Expr::Tuple ns) = all ns
expr_step (Expr-F.Dict ns) = all ns
expr_step (Expr-F.ListComprehension m ns own) = comprehension_slots own (m ++ all ns)
expr_step (Expr-F.DictComprehension m ns own) = comprehension_slots own (m ++ all ns)
expr_step (Expr-F.Primary m ns) = m ++ all ns
expr_step (Expr-F.Unary os n) = n
expr_step (Expr-F.Binary m ns) = m ++ all ns
expr_step (Expr-F.Compare m o n) = m ++ n
expr_step (Expr-F.Conditional ms n) = all ms ++ n
expr_step Expr-F.Lambda = []

-- the slots in an expression that are of the frame that it is evaluated in
abbrev pub expr_slots : Expr → List ℕ
expr_slots = fold-Expr (List ℕ) (List ℕ) (List ℕ) (List ℕ) (List ℕ) (List ℕ) (List ℕ) (List ℕ) argument_step clause_step expr_step suffix_step target_step choice_step operation_step pair_step

-- the slots in a target of an assignment
abbrev pub target_slots : TargetExpr → List ℕ
target_slots = fold-TargetExpr (List ℕ) (List ℕ) (List ℕ) (List ℕ) (List ℕ) (List ℕ) (List ℕ) (List ℕ) argument_step clause_step expr_step suffix_step target_step choice_step operation_step pair_step

-- the slots in an argument's value
abbrev pub argument_slots : Argument → List ℕ
argument_slots = fold-Argument (List ℕ) (List ℕ) (List ℕ) (List ℕ) (List ℕ) (List ℕ) (List ℕ) (List ℕ) argument_step clause_step expr_step suffix_step target_step choice_step operation_step pair_step

-- the slots in a clause of a comprehension
abbrev pub clause_slots : Clause → List ℕ
clause_slots = fold-Clause (List ℕ) (List ℕ) (List ℕ) (List ℕ) (List ℕ) (List ℕ) (List ℕ) (List ℕ) argument_step clause_step expr_step suffix_step target_step choice_step operation_step pair_step

-- the slots in the arguments, the index or the parts of the slice after an operand
abbrev pub suffix_slots : Suffix → List ℕ
suffix_slots = fold-Suffix (List ℕ) (List ℕ) (List ℕ) (List ℕ) (List ℕ) (List ℕ) (List ℕ) (List ℕ) argument_step clause_step expr_step suffix_step target_step choice_step operation_step pair_step

-- the slots in the value and the condition of `value if condition else`
abbrev pub choice_slots : Choice → List ℕ
choice_slots = fold-Choice (List ℕ) (List ℕ) (List ℕ) (List ℕ) (List ℕ) (List ℕ) (List ℕ) (List ℕ) argument_step clause_step expr_step suffix_step target_step choice_step operation_step pair_step

-- the slots in an operator's right operand
abbrev pub operation_slots : Operation → List ℕ
operation_slots = fold-Operation (List ℕ) (List ℕ) (List ℕ) (List ℕ) (List ℕ) (List ℕ) (List ℕ) (List ℕ) argument_step clause_step expr_step suffix_step target_step choice_step operation_step pair_step

-- the slots in a key and its value in a dict
abbrev pub pair_slots : Pair → List ℕ
pair_slots = fold-Pair (List ℕ) (List ℕ) (List ℕ) (List ℕ) (List ℕ) (List ℕ) (List ℕ) (List ℕ) argument_step clause_step expr_step suffix_step target_step choice_step operation_step pair_step

-- ---- statements

-- the slots in a small statement, those of its target before those of its value
abbrev pub kind_slots : SmallKind → List ℕ
kind_slots (small.Expr x) = expr_slots x
kind_slots (small.Assign t x) = target_slots t ++ expr_slots x
kind_slots (small.Augment t o x) = target_slots t ++ expr_slots x
kind_slots (small.Return (Some x)) = expr_slots x
kind_slots _ = []

-- the slots in a small statement, whatever its line
abbrev pub small_slots : SmallStmt → List ℕ
small_slots x = kind_slots x.kind

-- a branch of `if` has the slots of its condition and then those of its block's statements
abbrev pub branch_step : Branch-F (List ℕ) (List ℕ) → List ℕ
branch_step x = expr_slots x.condition ++ all x.block

-- no `def` stands in a `def`
abbrev pub stmt_step : Stmt-F (List ℕ) (List ℕ) → List ℕ
stmt_step (Stmt-F.Simple xs) = all (map small_slots xs)
stmt_step (Stmt-F.If ms ns) = all ms ++ all ns
stmt_step (Stmt-F.For t x ns) = target_slots t ++ (expr_slots x ++ all ns)
stmt_step (Stmt-F.Def n ps ns) = []

-- the slots in a statement of a function; none in a `def`
abbrev pub stmt_slots : Stmt → List ℕ
stmt_slots = fold-Stmt (List ℕ) (List ℕ) stmt_step branch_step

-- the slots in a condition and its block
abbrev pub branch_slots : Branch → List ℕ
branch_slots = fold-Branch (List ℕ) (List ℕ) stmt_step branch_step
