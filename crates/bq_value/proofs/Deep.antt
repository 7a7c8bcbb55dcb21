-- Values of a number of levels: a step for each of them, and at most 64.
use Rattle.std.proofs.Common.{◌≡◌, ◌∙◌, ◌+◌, ℕ, zero, suc, Bool, true, Ok, Err, ap, arith}
use Rattle.std.specs.declared.cmp.Ordering.TheVariants.{Equal}
use Rattle.bq_base.specs.declared.fault.EvalFault.TheVariants.{TooDeep}
use Rattle.bq_value.specs.Datum.{none}
use Rattle.bq_value.specs.Cells.{StoreView}
use Rattle.bq_value.specs.Looked.{Looked}
use Rattle.bq_value.specs.Equality.{if_so, equal_at}
use Rattle.bq_value.specs.Order.{at_first, tuple_ordered, ordered_at}
use Rattle.bq_value.specs.KeyWalk.{Walked, and_walk, walked_at}
use Rattle.bq_value.specs.WalkLaws.{nested}

one_more : (l n : ℕ) → suc l + n ≡ suc (l + n)
one_more l n = omega arith

last_one : (n : ℕ) → suc zero + n ≡ suc n
last_one n = omega arith

pub nested_equal : (l : ℕ) (s : StoreView) (n : ℕ) → equal_at (suc l) s (suc l + n) (nested l) (nested l) ≡ Ok (true, n)
unfolding nested
nested_equal zero s n = ap (λ (k : ℕ). equal_at (suc zero) s k none none) (last_one n)
nested_equal (suc l) s n =
    ap (λ (k : ℕ). equal_at (suc (suc l)) s k (nested (suc l)) (nested (suc l))) (one_more (suc l) n)
    ∙ ap (λ (r : Looked Bool). if_so r (λ m. Ok (true, m))) (nested_equal l s n)

pub nested_too_deep : (l : ℕ) (s : StoreView) (n : ℕ) → equal_at l s (suc l + n) (nested l) (nested l) ≡ Err TooDeep
unfolding nested
nested_too_deep zero s n = ap (λ (k : ℕ). equal_at zero s k none none) (last_one n)
nested_too_deep (suc l) s n =
    ap (λ (k : ℕ). equal_at (suc l) s k (nested (suc l)) (nested (suc l))) (one_more (suc l) n)
    ∙ ap (λ (r : Looked Bool). if_so r (λ m. Ok (true, m))) (nested_too_deep l s n)

pub nested_ordered : (l : ℕ) (s : StoreView) (n : ℕ) → ordered_at (suc (suc l)) s (suc (suc l) + n) (nested (suc l)) (nested (suc l)) ≡ Ok (Equal, n)
unfolding nested tuple_ordered
nested_ordered l s n =
    ap (λ (k : ℕ). ordered_at (suc (suc l)) s k (nested (suc l)) (nested (suc l))) (one_more (suc l) n)
    ∙ ap (λ (r : Looked Bool). at_first r (λ m. Ok (Equal, m)) (λ m. ordered_at (suc l) s m (nested l) (nested l))) (nested_equal l s n)

pub nested_unordered : (l : ℕ) (s : StoreView) (n : ℕ) → ordered_at (suc l) s (suc (suc l) + n) (nested (suc l)) (nested (suc l)) ≡ Err TooDeep
unfolding nested tuple_ordered
nested_unordered l s n =
    ap (λ (k : ℕ). ordered_at (suc l) s k (nested (suc l)) (nested (suc l))) (one_more (suc l) n)
    ∙ ap (λ (r : Looked Bool). at_first r (λ m. Ok (Equal, m)) (λ m. ordered_at l s m (nested l) (nested l))) (nested_too_deep l s n)

pub nested_walked : (l n : ℕ) → walked_at (suc l) (suc l + n) (nested l) ≡ Ok n
unfolding nested
nested_walked zero n = ap (λ (k : ℕ). walked_at (suc zero) k none) (last_one n)
nested_walked (suc l) n =
    ap (λ (k : ℕ). walked_at (suc (suc l)) k (nested (suc l))) (one_more (suc l) n) ∙ ap (λ (r : Walked). and_walk r (λ m. Ok m)) (nested_walked l n)

pub nested_unwalked : (l n : ℕ) → walked_at l (suc l + n) (nested l) ≡ Err TooDeep
unfolding nested
nested_unwalked zero n = ap (λ (k : ℕ). walked_at zero k none) (last_one n)
nested_unwalked (suc l) n =
    ap (λ (k : ℕ). walked_at (suc l) k (nested (suc l))) (one_more (suc l) n) ∙ ap (λ (r : Walked). and_walk r (λ m. Ok m)) (nested_unwalked l n)
