-- A list of numbers in order is known by its members.
use Rattle.std.proofs.Common.{◌≡◌, ◌↔◌, ℕ, Bool, true, false, List, refl, sym}
use Rattle.std.specs.Bool.{IsTrue}
use Rattle.std.specs.BTreeSet.{contains}
use Rattle.std.specs.Cmp.{nat_cmp_total}
use Rattle.std.specs.List.{Contains}
use Rattle.std.specs.List.Sorted.{IsStrictlyIncreasing}
use Rattle.std.specs.Ordering.{nat_cmp}
use Rattle.std.proofs.lemmas.Map.Keys.{sorted_from_strictly_increasing}
use Rattle.std.proofs.lemmas.Map.Lookups.{exact_unsigned, btree_set_from_contains}
use Rattle.std.proofs.lemmas.Map.Views.{btree_set_contains_iff}

one_test : (a b : Bool) (P Q : Type 0) → IsTrue a ↔ P → IsTrue b ↔ Q → P ↔ Q → a ≡ b
one_test true true P Q f g h = refl
one_test false false P Q f g h = refl
one_test true false P Q f g h = sym (g.1 (h.0 (f.0 refl)))
one_test false true P Q f g h = f.1 (h.1 (g.0 refl))

pub one_list : (xs ys : List ℕ) → IsStrictlyIncreasing xs → IsStrictlyIncreasing ys → ((y : ℕ) → Contains xs y ↔ Contains ys y) → xs ≡ ys
one_list xs ys s t same =
    btree_set_from_contains nat_cmp_total (record { keys = xs }) (record { keys = ys }) (sorted_from_strictly_increasing xs s) (sorted_from_strictly_increasing ys t)
    (λ q. one_test (contains nat_cmp (record { keys = xs }) q) (contains nat_cmp (record { keys = ys }) q) (Contains xs q) (Contains ys q)
    (btree_set_contains_iff nat_cmp_total exact_unsigned (record { keys = xs }) q) (btree_set_contains_iff nat_cmp_total exact_unsigned (record { keys = ys }) q) (same q))
    exact_unsigned
