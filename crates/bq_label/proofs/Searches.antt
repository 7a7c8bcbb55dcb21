-- A binary search of an ascending list finds what a search from the front finds.
use Rattle.std.proofs.Common.{◌≡◌, ◌+◌, ◌<◌, ℕ, zero, suc, Bool, true, false, List, [], ◌∷◌, Some, None, length, get_or, refl, sym, ap, ◌∙◌, arith, inl, inr}
use Rattle.std.proofs.lemmas.Bool.{cases_lt}
use Rattle.std.specs.Cmp.{IsTotalOrder}
use Rattle.std.specs.List.{find}
use Rattle.std.specs.List.Sorted.{IsStrictlySortedBy, IsSortedBy, IsNonDecreasingBy, IsPartitionPoint}
use Rattle.std.specs.Ordering.{is_lt, is_eq, ordering_reverse, ordering_index}
use Rattle.std.specs.declared.cmp.Ordering.{Ordering}
use Rattle.std.specs.declared.cmp.Ordering.TheVariants.{Less, Equal, Greater}
use Rattle.std.proofs.lemmas.Cmp.{alike_right}
use Rattle.std.proofs.lemmas.List.Sorted.{searchable_from_sorted}
use Rattle.std.proofs.lemmas.Map.Keys.{sorted_tail, Less-from_sorted}

pub find_none : {X : Type 0} (test : X → Bool) (xs : List X) → ((k : ℕ) (d : X) → k < length xs → test (get_or xs k d) ≡ false) → find test xs ≡ None
find_none test [] f = refl
find_none test (x ∷ xs) f = rw (f 0 x (omega arith)) (find_none test xs (λ k d l. f (suc k) d (omega arith)))

-- xs ascend by a key, and the test passes those whose key is x
module _ {X K : Type 0} (key : X → K) {R : K → K → Ordering} (o : IsTotalOrder R) (test : X → Bool) (x : K) (agrees : (y : X) → test y ≡ is_eq (R (key y) x)) where
  abbrev by_key : X → X → Ordering
  by_key a b = R (key a) (key b)

  pub find_here : (xs : List X) → IsStrictlySortedBy by_key xs → (i : ℕ) (d : X) → i < length xs → R (key (get_or xs i d)) x ≡ Equal → find test xs ≡ Some (get_or xs i d)
  find_here [] s i d l e = absurd (omega arith)
  find_here (y ∷ ys) s zero d l e = let passes : test y ≡ true = agrees y ∙ ap is_eq e in rw passes refl
  find_here (y ∷ ys) s (suc i) d l e =
      let less : R (key y) (key (get_or ys i d)) ≡ Less = Less-from_sorted by_key (y ∷ ys) 0 (suc i) d s (omega arith) l in
      let below : R (key y) x ≡ Less = sym (alike_right o (key (get_or ys i d)) x (key y) e) ∙ less in
      let fails : test y ≡ false = agrees y ∙ ap is_eq below in
      rw fails (find_here ys (sorted_tail by_key y ys s) i d (omega arith) e)

  ascends : (xs : List X) → IsStrictlySortedBy by_key xs → IsSortedBy (λ a b. is_lt (by_key a b)) xs
  ascends xs s k d h l =
      let less : by_key (get_or xs k d) (get_or xs (k + 1) d) ≡ Less = Less-from_sorted by_key xs k (k + 1) d s (omega arith) l in
      ap is_lt (o.antisymm (key (get_or xs (k + 1) d)) (key (get_or xs k d)) ∙ ap ordering_reverse less)

  pub find_nowhere : (xs : List X) → IsStrictlySortedBy by_key xs → (i : ℕ) → (IsNonDecreasingBy (λ y. ordering_index (R (key y) x)) xs → IsPartitionPoint (λ y. R (key y) x ≡ Less) (λ y. R (key y) x ≡ Greater) xs i) → find test xs ≡ None
  find_nowhere xs s i p =
      let f = p (searchable_from_sorted o key xs x (ascends xs s)) in
      find_none test xs (λ k d l. elim (cases_lt k i) [
        | inl below ↦ agrees (get_or xs k d) ∙ ap is_eq (f.0 k d (omega arith) below)
        | inr above ↦ agrees (get_or xs k d) ∙ ap is_eq (f.1 k d above l)
      ])
