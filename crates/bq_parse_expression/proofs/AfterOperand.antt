-- Chains of operators, read after their first operand of all.
use Rattle.std.proofs.Common.{◌≡◌, ◌∙◌, ℕ, zero, suc, ◌-◌, ◌<◌, false, List, [], ◌∷◌, Option, Some, None, Ok, Err, refl, sym, ap, arith}
use Rattle.bq_parse_grammar.specs.Lexeme.{Lexeme}
use Rattle.bq_parse_grammar.specs.declared.tree.Expr.{Expr}
use Rattle.bq_parse_grammar.specs.declared.tree.Operator.{Operator}
use Rattle.bq_parse_grammar.specs.Grammar.{binary_of}
use Rattle.bq_parse_grammar.specs.Operators.{binary_operator, operator_at}
use Rattle.bq_parse_grammar.proofs.Cases.{of_level}
use Rattle.bq_parse_grammar.specs.Reading.{has, is_known, operation, unary, binary, chain}
use Rattle.bq_parse_grammar.specs.Turns.{Found, Parse, ◌>>=◌, repeat}
use Rattle.bq_parse_expression.specs.Further.{further}
use Rattle.bq_parse_expression.proofs.LoopTurns.{none_follow}

-- what the operators of one level make of an operand
abbrev chained : Parse Expr → ℕ → ℕ → Expr → Parse Expr
chained base l m y mid = repeat (has (operator_at l)) (operation l (binary base m)) [] mid >>= λ os rest. Ok (binary_of y os, rest)

pub as_read : (r : Found Expr) → r ≡ (r >>= λ x rest. Ok (x, rest))
as_read (Err e) = refl
as_read (Ok p) = refl

one_by_one : (r : Found Expr) (f g : Expr → Parse Expr) → (r >>= λ x mid. f x mid >>= λ y rest. g y rest) ≡ ((r >>= λ x mid. f x mid) >>= λ y rest. g y rest)
one_by_one (Err e) f g = refl
one_by_one (Ok p) f g = refl

-- a level is its first operand of all, and what further operators do to it
pub first_of_all : (base : Parse Expr) (l : ℕ) (ts : List Lexeme) → binary base l ts ≡ (unary base ts >>= λ x mid. further base l x mid)
unfolding further chain
first_of_all base zero ts = as_read (unary base ts)
first_of_all base (suc l) ts =
    ap (λ r. r >>= λ y mid. chained base (suc l) l y mid) (first_of_all base l ts)
    ∙ sym (one_by_one (unary base ts) (λ x mid. further base l x mid) (λ y mid. chained base (suc l) l y mid))

pub further_above : (base : Parse Expr) (l : ℕ) (x : Expr) (ts : List Lexeme) → 0 < l
    → further base l x ts ≡ (further base (l - 1) x ts >>= λ y mid. repeat (has (operator_at l)) (operation l (binary base (l - 1))) [] mid >>= λ os rest. Ok (binary_of y os, rest))
unfolding further
further_above base l x ts some =
    let one : l ≡ suc (l - 1) = omega arith in
    ap (λ n. further base n x ts) one ∙ ap (λ n. further base (l - 1) x ts >>= λ y mid. chained base n (l - 1) y mid) (sym one)

pub further_none : (base : Parse Expr) (x : Expr) (ts : List Lexeme) → further base 0 x ts ≡ Ok (x, ts)
unfolding further
further_none base x ts = refl

no_level : (l : ℕ) (o : Option (ℕ × Operator)) → is_known o ≡ false → is_known (of_level l o) ≡ false
no_level l None h = refl
no_level l (Some p) h = cc

no_operator : (l : ℕ) (ts : List Lexeme) → has binary_operator ts ≡ false → has (operator_at l) ts ≡ false
no_operator l [] h = refl
no_operator l (t ∷ ts) h = no_level l (binary_operator t.kind) h

-- where no operator comes next, the operand is all
pub nothing_further : (base : Parse Expr) (l : ℕ) (x : Expr) (ts : List Lexeme) → has binary_operator ts ≡ false → further base l x ts ≡ Ok (x, ts)
unfolding further
nothing_further base zero x ts h = refl
nothing_further base (suc l) x ts h =
    ap (λ r. r >>= λ y mid. chained base (suc l) l y mid) (nothing_further base l x ts h)
    ∙ ap (λ r. r >>= λ os rest. Ok (binary_of x os, rest)) (none_follow (has (operator_at (suc l))) (operation (suc l) (binary base l)) [] ts (no_operator (suc l) ts h))

pub goes_on : (base : Parse Expr) (l : ℕ) (ts : List Lexeme) (x : Expr) (mid : List Lexeme) → unary base ts ≡ Ok (x, mid) → binary base l ts ≡ further base l x mid
goes_on base l ts x mid h = first_of_all base l ts ∙ ap (λ r. r >>= λ y rest. further base l y rest) h
