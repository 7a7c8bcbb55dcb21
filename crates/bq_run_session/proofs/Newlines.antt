-- How many newlines come after a place of a text, and how many texts have that are put together.
use Rattle.std.proofs.Common.{◌≡◌, ◌∙◌, ◌≤◌, ◌<◌, ◌+◌, ◌++◌, ◌==◌, ℕ, zero, suc, false, List, [], ◌∷◌, length, drop, get_or, refl, ap, arith, eq-eqb, inl, inr}
use Rattle.std.proofs.lemmas.Bool.{cases_Bool, eqb-true, false_from_ne_true}
use Rattle.std.specs.List.{concat}
use Rattle.bq_run_device.proofs.Transfers.{left_more, left_none}
use Rattle.bq_run_session.specs.Block.{line_count}

pub newline_counted : (text : List ℕ) (i : ℕ) → i < length text → get_or text i 0 ≡ 10 → line_count (drop i text) ≡ line_count (drop (i + 1) text) + 1
unfolding line_count
newline_counted [] i less is = absurd (omega arith)
newline_counted (b ∷ bs) zero less is = rw (eq-eqb b 10 is) refl
newline_counted (b ∷ bs) (suc i) less is = let next : suc i + 1 ≡ suc (i + 1) = omega arith in rw next (newline_counted bs i (omega arith) is)

pub other_counted : (text : List ℕ) (i : ℕ) → i < length text → ¬ (get_or text i 0 ≡ 10) → line_count (drop i text) ≡ line_count (drop (i + 1) text)
unfolding line_count
other_counted [] i less is = absurd (omega arith)
other_counted (b ∷ bs) zero less is = let other : (b == 10) ≡ false = false_from_ne_true (b == 10) (λ same. is (eqb-true b 10 same)) in rw other refl
other_counted (b ∷ bs) (suc i) less is = let next : suc i + 1 ≡ suc (i + 1) = omega arith in rw next (other_counted bs i (omega arith) is)

pub none_counted : (text : List ℕ) (i : ℕ) → length text ≤ i → line_count (drop i text) ≡ 0
unfolding line_count
none_counted [] zero less = refl
none_counted [] (suc i) less = refl
none_counted (b ∷ bs) zero less = absurd (omega arith)
none_counted (b ∷ bs) (suc i) less = none_counted bs i (omega arith)

pub counted_joined : (xs ys : List ℕ) → line_count (xs ++ ys) ≡ line_count xs + line_count ys
unfolding line_count
counted_joined [] ys = omega arith
counted_joined (b ∷ bs) ys =
    let rest = counted_joined bs ys in
    elim (cases_Bool (b == 10)) [
      | inl newline ↦ rw newline (omega (arith, rest))
      | inr other ↦ rw other (omega (arith, rest))
    ]

-- of strings in a row the first is counted, and then the others
pub string_counted : (ps : List (List ℕ)) (i : ℕ) (p : List ℕ) → i < length ps → p ≡ get_or ps i p → line_count (concat (drop i ps)) ≡ line_count p + line_count (concat (drop (i + 1) ps))
string_counted ps i p less is = ap line_count (left_more ps i p less is) ∙ counted_joined p (concat (drop (i + 1) ps))

pub no_string_counted : (ps : List (List ℕ)) (i : ℕ) → length ps ≤ i → line_count (concat (drop i ps)) ≡ 0
unfolding line_count
no_string_counted ps i less = ap line_count (left_none ps i less)

-- a text and the line after it
pub body_counted : (text error line : List ℕ) (count lines : ℕ) → count ≡ lines + line_count text → lines ≡ line_count error → error ≡ line → count ≡ line_count (text ++ line)
body_counted text error line count lines is counted same = omega (arith, is, counted ∙ ap line_count same, counted_joined text line)
