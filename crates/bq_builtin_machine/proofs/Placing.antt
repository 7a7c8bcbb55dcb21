-- The values of parameters that take positional arguments.
use Rattle.std.proofs.Common.{◌≡◌, ◌∙◌, sym, ap, refl, ℕ, zero, suc, ◌+◌, ◌-◌, ◌<◌, ◌≤◌, List, [], ◌∷◌, ◌++◌, length, map, replicate, take, append_assoc, Option, Some, None, arith}
use Rattle.std.proofs.lemmas.List.{length_push}
use Rattle.bq_value.specs.Datum.{Datum}
use Rattle.bq_builtin_machine.specs.Binding.{placed_values}
use Rattle.bq_builtin_machine.specs.Placed.{padded}

abbrev nones : ℕ → List (Option Datum)
nones k = replicate k None

-- one more parameter without an argument
pub one_less : (vs : List (Option Datum)) (count : ℕ) → length vs < count → (vs ++ None ∷ []) ++ replicate (count - length (vs ++ None ∷ [])) None ≡ vs ++ replicate (count - length vs) None
one_less vs count h =
    let next : count - length vs ≡ suc (count - (length vs + 1)) = omega (arith, h) in
    ap (λ k. (vs ++ None ∷ []) ++ nones (count - k)) (length_push vs None)
    ∙ (append_assoc vs (None ∷ []) (nones (count - (length vs + 1))) ∙ ap (λ k. vs ++ nones k) (sym next))

none_left : (n : ℕ) → nones n ≡ padded n []
none_left n = let all : n - 0 ≡ n = omega arith in ap nones (sym all)

none_placed : (p n : ℕ) → placed_values p n [] ≡ nones n
none_placed zero zero = refl
none_placed (suc p) zero = refl
none_placed zero (suc n) = ap (λ vs. None ∷ vs) (none_placed zero n)
none_placed (suc p) (suc n) = ap (λ vs. None ∷ vs) (none_placed p n)

no_place : (n : ℕ) (xs : List Datum) → placed_values 0 n xs ≡ nones n
no_place zero xs = refl
no_place (suc n) xs = ap (λ vs. None ∷ vs) (no_place n xs)

-- those that take positional arguments are the first
placed_padded : (p n : ℕ) (xs : List Datum) → p ≤ n → placed_values p n xs ≡ padded n (take p xs)
placed_padded zero n xs few = no_place n xs ∙ none_left n
placed_padded (suc p) zero xs few = absurd (omega (arith, few))
placed_padded (suc p) (suc n) [] few = none_placed (suc p) (suc n) ∙ none_left (suc n)
placed_padded (suc p) (suc n) (x ∷ xs) few =
    let same : suc n - suc (length (take p xs)) ≡ n - length (take p xs) = omega arith in
    ap (λ vs. Some x ∷ vs) (placed_padded p n xs (omega (arith, few))) ∙ ap (λ k. Some x ∷ (map Some (take p xs) ++ nones k)) (sym same)

pub all_placed : (p n : ℕ) (xs ys : List Datum) (vs : List (Option Datum)) → p ≤ n → ys ≡ take p xs → vs ≡ padded n ys → vs ≡ placed_values p n xs
all_placed p n xs ys vs few first is = is ∙ (ap (padded n) first ∙ sym (placed_padded p n xs few))
