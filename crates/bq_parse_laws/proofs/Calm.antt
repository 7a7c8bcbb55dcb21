-- Turning an expression into a target never stops at a `lambda`.
use Rattle.std.proofs.Common.{◌≡◌, ℕ, zero, suc, List, [], ◌∷◌, ◌++◌, Result, Ok, Err, refl}
use Rattle.bq_parse_grammar.specs.Lexeme.{Lexeme}
use Rattle.bq_parse_grammar.specs.declared.refusal.SyntaxErr.{SyntaxErr}
use Rattle.bq_parse_grammar.specs.declared.refusal.SyntaxErr.TheVariants.{Memory, Syntax, Lambda}
use Rattle.bq_parse_grammar.specs.declared.tree.Argument.TheOpen.{Expr-F, Suffix-F}
use Rattle.bq_parse_grammar.specs.declared.tree.Expr.{Expr, out-Expr}
use Rattle.bq_parse_grammar.specs.declared.tree.Suffix.{Suffix, out-Suffix}
use Rattle.bq_parse_grammar.specs.declared.tree.TargetExpr.{TargetExpr}
use Rattle.bq_parse_grammar.specs.declared.tree.TargetExpr.TheVariants as target
use Rattle.bq_parse_grammar.specs.Grammar.{primary_of}
use Rattle.bq_parse_grammar.specs.Targets.{ExprLayer, SuffixLayer, with_target, targets_from, many_of, index_of, indexed_from, target_by, target_to, augmented_by, augmented_target}
use Rattle.bq_parse_grammar.specs.Turns.{Parse, ◌>>=◌}
use Rattle.bq_parse_grammar.specs.ReadingStatements.{made}
use Rattle.bq_parse_grammar.proofs.Agrees.{Owes}

abbrev pub Calm : {A : Type 0} → Result A SyntaxErr → Type 0
Calm (Err Lambda) = ⊥
Calm _ = Unit {0}

with_calm : {B : Type 0} (r : Result TargetExpr SyntaxErr) (f : TargetExpr → Result B SyntaxErr) → Calm r → ((x : TargetExpr) → Calm (f x)) → Calm (with_target r f)
with_calm (Ok x) f h g = g x
with_calm (Err Memory) f h g = tt
with_calm (Err Syntax) f h g = tt
with_calm (Err Lambda) f h g = absurd h

targets_calm : (one : Expr → Result TargetExpr SyntaxErr) → ((x : Expr) → Calm (one x)) → (found : List TargetExpr) (xs : List Expr) → Calm (targets_from one found xs)
targets_calm one each found [] = tt
targets_calm one each found (x ∷ xs) = with_calm (one x) (λ y. targets_from one (found ++ y ∷ []) xs) (each x) (λ y. targets_calm one each (found ++ y ∷ []) xs)

many_calm : (make : List TargetExpr → TargetExpr) (r : Result (List TargetExpr) SyntaxErr) → Calm r → Calm (many_of make r)
many_calm make (Ok []) h = tt
many_calm make (Ok (x ∷ xs)) h = tt
many_calm make (Err Memory) h = tt
many_calm make (Err Syntax) h = tt
many_calm make (Err Lambda) h = absurd h

index_calm : (x : Expr) (l : SuffixLayer) → Calm (index_of x l)
index_calm x (Suffix-F.Suffix::Index i) = tt
index_calm x _ = tt

indexed_calm : (x : Expr) (done xs : List Suffix) → Calm (indexed_from x done xs)
indexed_calm x done [] = tt
indexed_calm x done (y ∷ []) = index_calm (primary_of x done) (out-Suffix y)
indexed_calm x done (y ∷ z ∷ zs) = indexed_calm x (done ++ y ∷ []) (z ∷ zs)

by_calm : (inner : Expr → Result TargetExpr SyntaxErr) → ((x : Expr) → Calm (inner x)) → (l : ExprLayer) → Calm (target_by inner l)
by_calm inner each (Expr-F.Expr::Name n) = tt
by_calm inner each (Expr-F.Primary x xs) = indexed_calm x [] xs
by_calm inner each (Expr-F.Expr::Tuple xs) = many_calm target.Tuple (targets_from inner [] xs) (targets_calm inner each [] xs)
by_calm inner each (Expr-F.Expr::List xs) = many_calm target.List (targets_from inner [] xs) (targets_calm inner each [] xs)
by_calm inner each _ = tt

pub target_calm : (depth : ℕ) (x : Expr) → Calm (target_to depth x)
unfolding target_to
target_calm zero x = tt
target_calm (suc depth) x = by_calm (target_to depth) (target_calm depth) (out-Expr x)

augmented_by_calm : (l : ExprLayer) → Calm (augmented_by l)
augmented_by_calm (Expr-F.Expr::Name n) = tt
augmented_by_calm (Expr-F.Primary x xs) = indexed_calm x [] xs
augmented_by_calm _ = tt

pub augmented_calm : (x : Expr) → Calm (augmented_target x)
unfolding augmented_target
augmented_calm x = augmented_by_calm (out-Expr x)

-- what is made without reading a token, then a phrase
pub made_then : {A B : Type 0} (S : List Lexeme → B → Type 0) (r : Result A SyntaxErr) (f : A → Parse B) (ts : List Lexeme) → Calm r
    → ((x : A) → r ≡ Ok x → Owes B S (f x ts)) → Owes B S (made r ts >>= f)
made_then S (Ok x) f ts h g = g x refl
made_then S (Err Memory) f ts h g = tt
made_then S (Err Syntax) f ts h g = tt
made_then S (Err Lambda) f ts h g = absurd h
