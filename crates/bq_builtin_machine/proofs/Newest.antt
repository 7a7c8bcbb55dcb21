-- The newest of a list, which is its last.
use Rattle.std.proofs.Common.{◌≡◌, ◌∙◌, ap, refl, ℕ, ◌-◌, Bool, true, false, ◌&&◌, ◌||◌, List, [], ◌∷◌, ◌++◌, length, take, arith, length-append, ◌==◌}
use Rattle.std.proofs.Math.Seq.{take-append_seam}
use Rattle.std.specs.List.{list_any}
use Rattle.std.specs.Cmp.{unsigned_Decides}
use Rattle.bq_value.specs.Cell.{Cell}
use Rattle.bq_builtin_machine.specs.Calls.{without_newest, is_active}
use Rattle.bq_builtin_machine.specs.Cells.{is_walked}

pub without_last : {A : Type 0} (xs : List A) (x : A) → without_newest (xs ++ x ∷ []) ≡ xs
without_last {A} xs x =
    let n : length (xs ++ x ∷ []) - 1 ≡ length xs = omega (arith, length-append xs (x ∷ [])) in
    ap (λ k. take k (xs ++ x ∷ [])) n ∙ take-append_seam xs (x ∷ [])

or_true : (b : Bool) → (b || true) ≡ true
or_true true = refl
or_true false = refl

pub any_newest : {A : Type 0} (test : A → Bool) (xs : List A) (x : A) → test x ≡ true → list_any test (xs ++ x ∷ []) ≡ true
any_newest test [] x h = ap (λ b. b || false) h
any_newest test (y ∷ xs) x h = ap (λ b. test y || b) (any_newest test xs x h) ∙ or_true (test y)

both_same : (a b : ℕ) → ((a == a) && (b == b)) ≡ true
both_same a b = ap (λ t. t && (b == b)) ((unsigned_Decides a a).1 refl) ∙ (unsigned_Decides b b).1 refl

pub newest_is_walked : (home number : ℕ) (walks : List Cell) → is_walked home number (walks ++ record { «module» = home; number = number } ∷ []) ≡ true
newest_is_walked home number walks = any_newest (λ c. (c.module == home) && (c.number == number)) walks (record { «module» = home; number = number }) (both_same home number)

pub newest_is_active : (home place : ℕ) (active : List (ℕ × ℕ)) → is_active home place (active ++ (home, place) ∷ []) ≡ true
newest_is_active home place active = any_newest (λ f. (f.0 == home) && (f.1 == place)) active (home, place) (both_same home place)
