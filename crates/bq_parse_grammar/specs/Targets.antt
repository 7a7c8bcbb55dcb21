-- Which expressions may be assigned to, and as which targets. An assignment is read as an expression, then `=`: its left side is a
-- target exactly where the expression is one of these (`assignments_have_targets` of bq_parse_laws).
use Rattle.std.specs.Prelude.{ℕ, zero, suc, List, [], ◌∷◌, ◌++◌, Result, Ok, Err}
use Rattle.bq_parse_grammar.specs.declared.refusal.SyntaxErr.{SyntaxErr}
use Rattle.bq_parse_grammar.specs.declared.refusal.SyntaxErr.TheVariants.{Syntax}
use Rattle.bq_parse_grammar.specs.declared.tree.Argument.{Argument}
use Rattle.bq_parse_grammar.specs.declared.tree.Argument.TheOpen.{Expr-F, Suffix-F}
use Rattle.bq_parse_grammar.specs.declared.tree.Choice.{Choice}
use Rattle.bq_parse_grammar.specs.declared.tree.Clause.{Clause}
use Rattle.bq_parse_grammar.specs.declared.tree.Expr.{Expr, out-Expr}
use Rattle.bq_parse_grammar.specs.declared.tree.Operation.{Operation}
use Rattle.bq_parse_grammar.specs.declared.tree.Pair.{Pair}
use Rattle.bq_parse_grammar.specs.declared.tree.Suffix.{Suffix, out-Suffix}
use Rattle.bq_parse_grammar.specs.declared.tree.TargetExpr.{TargetExpr}
use Rattle.bq_parse_grammar.specs.declared.tree.TargetExpr.TheVariants as target
use Rattle.bq_parse_grammar.specs.Grammar.{primary_of}

-- one level of a tree
abbrev pub ExprLayer : Type 0
ExprLayer = Expr-F Argument Clause Expr Suffix TargetExpr Choice Operation Pair

-- the form of a suffix
abbrev pub SuffixLayer : Type 0
SuffixLayer = Suffix-F Argument Clause Expr Suffix TargetExpr Choice Operation Pair

-- what follows an expression that can be a target
abbrev pub with_target : {B : Type 0} → Result TargetExpr SyntaxErr → (TargetExpr → Result B SyntaxErr) → Result B SyntaxErr
with_target (Err why) f = Err why
with_target (Ok x) f = f x

-- the targets found, and those of all further expressions
abbrev pub targets_from : (Expr → Result TargetExpr SyntaxErr) → List TargetExpr → List Expr → Result (List TargetExpr) SyntaxErr
targets_from one found [] = Ok found
targets_from one found (x ∷ xs) = with_target (one x) (λ y. targets_from one (found ++ y ∷ []) xs)

-- at least one, in brackets or out of them
abbrev pub many_of : (List TargetExpr → TargetExpr) → Result (List TargetExpr) SyntaxErr → Result TargetExpr SyntaxErr
many_of make (Err why) = Err why
many_of make (Ok []) = Err Syntax
many_of make (Ok (x ∷ xs)) = Ok (make (x ∷ xs))

-- what is done last is an index
abbrev pub index_of : Expr → SuffixLayer → Result TargetExpr SyntaxErr
index_of x (Suffix-F.Suffix::Index i) = Ok (target.Index x i)
index_of x _ = Err Syntax

-- the operand, what was done to it, and what is still done
abbrev pub indexed_from : Expr → List Suffix → List Suffix → Result TargetExpr SyntaxErr
indexed_from x done [] = Err Syntax
indexed_from x done (y ∷ []) = index_of (primary_of x done) (out-Suffix y)
indexed_from x done (y ∷ z ∷ zs) = indexed_from x (done ++ y ∷ []) (z ∷ zs)

-- the target that an expression stands for: a name, a place `x[i]`, or several in brackets
abbrev pub target_by : (Expr → Result TargetExpr SyntaxErr) → ExprLayer → Result TargetExpr SyntaxErr
target_by inner (Expr-F.Expr::Name n) = Ok (target.Name n)
target_by inner (Expr-F.Primary x xs) = indexed_from x [] xs
target_by inner (Expr-F.Expr::Tuple xs) = many_of target.Tuple (targets_from inner [] xs)
target_by inner (Expr-F.Expr::List xs) = many_of target.List (targets_from inner [] xs)
target_by inner _ = Err Syntax

-- the target that an expression is, in which fewer lists and tuples than this number nest
unfoldable pub target_to : ℕ → Expr → Result TargetExpr SyntaxErr
target_to zero x = Err Syntax
target_to (suc depth) x = target_by (target_to depth) (out-Expr x)

-- what an augmented assignment may assign to
abbrev pub augmented_by : ExprLayer → Result TargetExpr SyntaxErr
augmented_by (Expr-F.Expr::Name n) = Ok (target.Name n)
augmented_by (Expr-F.Primary x xs) = indexed_from x [] xs
augmented_by _ = Err Syntax

-- the target of `t op= x`: a name or a place
unfoldable pub augmented_target : Expr → Result TargetExpr SyntaxErr
augmented_target x = augmented_by (out-Expr x)
