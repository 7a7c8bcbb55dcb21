-- A recursion on a count of turns, beside a loop that counts up.
use Rattle.std.proofs.Common.{◌≡◌, ℕ, suc, ◌+◌, ◌-◌, ◌<◌, ◌≤◌, List, Some, ap, arith}
use Rattle.bq_query_parse.specs.Lexeme.{Lexeme}
use Rattle.bq_query_parse.specs.Turns.{Turn, next_turn, turns}

-- a turn more
pub turns_more : {S : Type 0} (turn : S → List Lexeme → Turn S) (n at : ℕ) (s : S) (ts : List Lexeme) → at < n
    → turns turn (n - at) s ts ≡ next_turn (turns turn (n - (at + 1))) (turn s ts)
unfolding turns
turns_more turn n at s ts below = let one : n - at ≡ suc (n - (at + 1)) = omega arith in ap (λ m. turns turn m s ts) one

-- none is left
pub turns_over : {S : Type 0} (turn : S → List Lexeme → Turn S) (n at : ℕ) (s : S) (ts : List Lexeme) → n ≤ at
    → turns turn (n - at) s ts ≡ Some (s, ts)
unfolding turns
turns_over turn n at s ts done = let none : n - at ≡ 0 = omega arith in ap (λ m. turns turn m s ts) none

pub deeper : {X : Type 0} (f : ℕ → X) (n : ℕ) → 0 < n → f n ≡ f (suc (n - 1))
deeper f n some = let e : n ≡ suc (n - 1) = omega arith in ap f e
