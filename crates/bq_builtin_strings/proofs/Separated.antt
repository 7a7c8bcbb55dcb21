-- Where the cuts are not too few, no part of a text has the separator.
use Rattle.std.proofs.Common.{◌≡◌, ◌≢◌, ◌+◌, ◌<◌, ◌≤◌, ◌++◌, ◌⊎◌, ℕ, zero, suc, List, [], ◌∷◌, Option, Some, None, length, take, drop, get_or, refl, sym, ap, subst, ◌∙◌, arith, inl, inr, append_assoc, length-append, length-take-le, length-drop}
use Rattle.std.specs.List.{Contains}
use Rattle.bq_builtin_strings.specs.Search.{find, StandsAt, IsLeastPlace}
use Rattle.bq_builtin_strings.specs.Parts.{around, partition, split}
use Rattle.bq_builtin_strings.proofs.Places.{find_least, found_whole}
use Rattle.bq_builtin_strings.proofs.PartCases.{split_by}

head_or_tail : {X : Type 0} (x : X) (xs : List X) (z : X) → Contains (x ∷ xs) z → (x ≡ z) ⊎ Contains xs z
head_or_tail x xs z c = by_place c.0 c.1 c.2
  where
    by_place : (k : ℕ) → k < length (x ∷ xs) → get_or (x ∷ xs) k z ≡ z → (x ≡ z) ⊎ Contains xs z
    by_place zero l e = inl e
    by_place (suc k) l e = inr (k, omega arith, e)

some_same : {A : Type 0} {x y : A} → Some x ≡ Some y → x ≡ y
some_same e = cc

longer : (sep : List ℕ) → (sep ≢ []) → 0 < length sep
longer [] n = absurd (n refl)
longer (b ∷ bs) n = omega arith

module _ (sep : List ℕ) (some : 0 < length sep) where
  nothing_has : (text : List ℕ) → length text ≤ 0 → (at : ℕ) → StandsAt sep text at → ⊥
  nothing_has text l at s = omega (arith, ap length s.whole, length-append s.before (sep ++ s.after), length-append sep s.after)

  -- what is in the front of a text is in the text
  in_front : (front rest : List ℕ) (k : ℕ) → StandsAt sep front k → StandsAt sep (front ++ rest) k
  in_front front rest k s = record {
    before = s.before;
    after = s.after ++ rest;
    whole = ap (λ (t : List ℕ). t ++ rest) s.whole ∙ (append_assoc s.before (sep ++ s.after) rest ∙ ap (λ (t : List ℕ). s.before ++ t) (append_assoc sep s.after rest));
    place = s.place;
  }

  fits : (front : List ℕ) (k : ℕ) → StandsAt sep front k → k + length sep ≤ length front
  fits front k s = omega (arith, s.place, ap length s.whole, length-append s.before (sep ++ s.after), length-append sep s.after)

  least_at : (text : List ℕ) (v : Option ℕ) → find sep text ≡ v → IsLeastPlace sep text v
  least_at text v e = subst (IsLeastPlace sep text) e (find_least sep text)

  -- before the first separator there is none
  none_before : (text : List ℕ) (at : ℕ) → find sep text ≡ Some at → at + length sep ≤ length text → (k : ℕ) → StandsAt sep (take at text) k → ⊥
  none_before text at e l k s =
      let first = least_at text (Some at) e in
      let size : length (take at text) ≡ at = length-take-le at text (omega arith) in
      let room : k + length sep ≤ length (take at text) = fits (take at text) k s in
      let there : StandsAt sep text k = subst (λ (t : List ℕ). StandsAt sep t k) (sym (found_whole sep text at e)) (in_front (take at text) (sep ++ drop (at + length sep) text) k s) in
      first.1 k (omega arith) there

  within : (text : List ℕ) (at : ℕ) → find sep text ≡ Some at → at + length sep ≤ length text
  within text at e = let first = least_at text (Some at) e in fits text at first.0

  parts_by : (most : ℕ) (text part : List ℕ) → length text ≤ suc most → ((t : List ℕ) → length t ≤ most → Contains (split sep most t) part → (k : ℕ) → StandsAt sep part k → ⊥)
      → (v : Option ℕ) → find sep text ≡ v → Contains (split_by (split sep most) text (around sep text v)) part → (k : ℕ) → StandsAt sep part k → ⊥
  parts_by most text part l h None e c k s = elim (head_or_tail text [] part c) [
    | inl is ↦ (least_at text None e) k (subst (λ (t : List ℕ). StandsAt sep t k) (sym is) s)
    | inr none ↦ absurd (omega (arith, none.1))
  ]
  parts_by most text part l h (Some at) e c k s = elim (head_or_tail (take at text) (split sep most (drop (at + length sep) text)) part c) [
    | inl is ↦ none_before text at e (within text at e) k (subst (λ (t : List ℕ). StandsAt sep t k) (sym is) s)
    | inr later ↦ h (drop (at + length sep) text) (omega (arith, length-drop (at + length sep) text, within text at e)) later k s
  ]

  pub no_part_has : (most : ℕ) (text part : List ℕ) → length text ≤ most → Contains (split sep most text) part → (k : ℕ) → StandsAt sep part k → ⊥
  unfolding split partition
  no_part_has zero text part l c k s = elim (head_or_tail text [] part c) [
    | inl is ↦ nothing_has text l k (subst (λ (t : List ℕ). StandsAt sep t k) (sym is) s)
    | inr none ↦ absurd (omega (arith, none.1))
  ]
  no_part_has (suc most) text part l c k s = parts_by most text part l (λ t m d. no_part_has most t part m d) (find sep text) refl c k s

pub separated : (sep text part : List ℕ) (most : ℕ) → (sep ≢ []) → length text ≤ most → Contains (split sep most text) part → (at : ℕ) → StandsAt sep part at → ⊥
separated sep text part most n l c at s = no_part_has sep (longer sep n) most text part l c at s
