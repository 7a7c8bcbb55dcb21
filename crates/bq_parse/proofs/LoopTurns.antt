-- A recursion on a count of turns, beside a loop that counts up.
use Rattle.std.proofs.Common.{◌≡◌, ℕ, suc, ◌+◌, ◌-◌, ◌<◌, ◌≤◌, ◌∙◌, List, sym, ap, arith}
use Rattle.bq_parse_grammar.specs.Lexeme.{Lexeme}
use Rattle.bq_parse_grammar.specs.Turns.{Parse, Turn, next_turn, turns}
use Rattle.bq_parse_grammar.specs.ReadingStatements.{stmt, statement}

-- a turn more
pub turns_more : {S : Type 0} (turn : S → List Lexeme → Turn S) (finish : S → Parse S) (n at : ℕ) (s : S) (ts : List Lexeme) → at < n
    → turns turn finish (n - at) s ts ≡ next_turn (turns turn finish (n - (at + 1))) (turn s ts)
unfolding turns
turns_more turn finish n at s ts below = let one : n - at ≡ suc (n - (at + 1)) = omega arith in ap (λ m. turns turn finish m s ts) one

-- none is left
pub turns_over : {S : Type 0} (turn : S → List Lexeme → Turn S) (finish : S → Parse S) (n at : ℕ) (s : S) (ts : List Lexeme) → n ≤ at
    → turns turn finish (n - at) s ts ≡ finish s ts
unfolding turns
turns_over turn finish n at s ts done = let none : n - at ≡ 0 = omega arith in ap (λ m. turns turn finish m s ts) none

pub deeper : {X : Type 0} (f : ℕ → X) (n : ℕ) → 0 < n → f n ≡ f (suc (n - 1))
deeper f n some = let e : n ≡ suc (n - 1) = omega arith in ap f e

pub statement_above : (n : ℕ) (ts : List Lexeme) → 0 < n → statement n ts ≡ stmt n (statement (n - 1)) ts
unfolding statement
statement_above n ts some =
    let one : n ≡ suc (n - 1) = omega arith in ap (λ m. statement m ts) one ∙ ap (λ m. stmt m (statement (n - 1)) ts) (sym one)
