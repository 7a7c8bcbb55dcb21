-- A recursion on a count of turns, beside a loop that counts up.
use Rattle.std.proofs.Common.{◌≡◌, ℕ, suc, ◌+◌, ◌-◌, ◌<◌, ◌≤◌, ◌∙◌, Bool, false, if◌then◌else◌, List, [], ◌∷◌, length, Ok, refl, sym, ap, arith}
use Rattle.bq_parse_grammar.specs.Lexeme.{Lexeme}
use Rattle.bq_parse_grammar.specs.declared.tree.Expr.{Expr}
use Rattle.bq_source.specs.declared.token.TokenKind.TheVariants as k
use Rattle.bq_parse_grammar.specs.Reading.{binary, chain, choice, with_choice, choice_turn, chosen_of, conditional}
use Rattle.bq_parse_grammar.specs.Turns.{Parse, Turn, ◌>>=◌, sees, whole, ended, goes_with, next_turn, turns, repeat, repeat_from}

-- a turn more
pub turns_more : {S : Type 0} (turn : S → List Lexeme → Turn S) (finish : S → Parse S) (n at : ℕ) (s : S) (ts : List Lexeme) → at < n
    → turns turn finish (n - at) s ts ≡ next_turn (turns turn finish (n - (at + 1))) (turn s ts)
unfolding turns
turns_more turn finish n at s ts below = let one : n - at ≡ suc (n - (at + 1)) = omega arith in ap (λ m. turns turn finish m s ts) one

-- none is left
pub turns_over : {S : Type 0} (turn : S → List Lexeme → Turn S) (finish : S → Parse S) (n at : ℕ) (s : S) (ts : List Lexeme) → n ≤ at
    → turns turn finish (n - at) s ts ≡ finish s ts
unfolding turns
turns_over turn finish n at s ts done = let none : n - at ≡ 0 = omega arith in ap (λ m. turns turn finish m s ts) none

pub deeper : {X : Type 0} (f : ℕ → X) (n : ℕ) → 0 < n → f n ≡ f (suc (n - 1))
deeper f n some = let e : n ≡ suc (n - 1) = omega arith in ap f e

pub level_above : (base : Parse Expr) (l : ℕ) (ts : List Lexeme) → 0 < l → binary base l ts ≡ chain l (binary base (l - 1)) ts
level_above base l ts some =
    let one : l ≡ suc (l - 1) = omega arith in ap (λ n. binary base n ts) one ∙ ap (λ n. chain n (binary base (l - 1)) ts) (sym one)

-- where no further item begins, none is found
pub none_follow : {A : Type 0} (begins : List Lexeme → Bool) (one : Parse A) (found : List A) (ts : List Lexeme) → begins ts ≡ false
    → repeat begins one found ts ≡ Ok (found, ts)
unfolding repeat turns
none_follow begins one found [] none = refl
none_follow begins one found (t ∷ ts) none =
    ap (λ b. next_turn (repeat_from begins one (length ts)) (if b then goes_with found (one (t ∷ ts)) else ended found (t ∷ ts))) none

-- where no `if` comes next, there is no choice
pub no_choice : (base : Parse Expr) (x : Expr) (ts : List Lexeme) → sees k.If ts ≡ false → conditional base x ts ≡ Ok (x, ts)
unfolding conditional turns
no_choice base x [] none = refl
no_choice base x (t ∷ ts) none =
    ap (λ b. next_turn (turns (choice_turn base) whole (length ts)) (if b then with_choice ([], x) (choice base (t ∷ ts)) else ended ([], x) (t ∷ ts)) >>= λ p rest. Ok (chosen_of p, rest)) none
