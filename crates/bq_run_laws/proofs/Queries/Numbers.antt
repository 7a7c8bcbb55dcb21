-- What a query reads of decimal digits is their number.
use Rattle.std.proofs.Common.{◌≡◌, ◌∙◌, ◌≤◌, ◌+◌, ◌*◌, ◌-◌, ◌^◌, ℕ, List, [], ◌∷◌, ◌++◌, refl, sym, ap, inl, inr, arith}
use Rattle.std.specs.Prelude.{min}
use Rattle.std.proofs.Math.Nat.{min-eq_left, min-eq_right}
use Rattle.std.proofs.lemmas.Bool.{cases_lt}
use Rattle.bq_query_check.specs.FormulaOf.{more_digits, number}
use Rattle.bq_run_laws.specs.Queries.Numbers.{IsDecimal, NumbersAreDecimal}

-- a last digit
last_digit : (n : ℕ) (word : List ℕ) (b : ℕ) → more_digits n (word ++ b ∷ []) ≡ min (more_digits n word * 10 + (b - 48)) (2 ^ 32)
last_digit n [] b = refl
last_digit n (x ∷ xs) b = last_digit (min (n * 10 + (x - 48)) (2 ^ 32)) xs b

-- what is cut before a digit is cut after it too
cut_again : (c n d : ℕ) → min (min n c * 10 + d) c ≡ min (n * 10 + d) c
cut_again c n d = elim (cases_lt n c) [
  | inl h ↦
      let small : n ≤ c = omega (h, arith) in
      ap (λ k. min (k * 10 + d) c) (min-eq_left small)
  | inr h ↦
      let low : c ≤ c * 10 + d = omega arith in
      let high : c ≤ n * 10 + d = omega (h, arith) in
      ap (λ k. min (k * 10 + d) c) (min-eq_right h) ∙ (min-eq_right low ∙ sym (min-eq_right high))
]

digit_of : (d : ℕ) → (48 + d) - 48 ≡ d
digit_of d = omega arith

first_digit : (d : ℕ) → 0 * 10 + ((48 + d) - 48) ≡ d
first_digit d = omega arith

number_of : {word : List ℕ} {n : ℕ} → IsDecimal word n → more_digits 0 word ≡ min n (2 ^ 32)
number_of (IsDecimal.digit {d = d} small e) = ap (more_digits 0) e ∙ ap (λ k. min k (2 ^ 32)) (first_digit d)
number_of (IsDecimal.more {before = before} {n = n} {d = d} h small e f) =
    ap (more_digits 0) e ∙ (last_digit 0 before (48 + d) ∙ (ap (λ k. min (more_digits 0 before * 10 + k) (2 ^ 32)) (digit_of d)
    ∙ (ap (λ k. min (k * 10 + d) (2 ^ 32)) (number_of h) ∙ (cut_again (2 ^ 32) n d ∙ ap (λ k. min k (2 ^ 32)) (sym f)))))

pub numbers : NumbersAreDecimal
unfolding number
numbers word n h = number_of h
