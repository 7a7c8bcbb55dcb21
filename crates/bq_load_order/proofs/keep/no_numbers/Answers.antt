use Rattle.std.proofs.Common.{◌≡◌, ℕ, ◌+◌, List, [], ◌∷◌, ◌++◌, zero, suc, get_or, Option, None, refl, ap, ◌∙◌, arith}
use Rattle.bq_load_order.proofs.keep.no_numbers.Goals as goal

-- None at the end of a list without others leaves it so
none_more : {A : Type 0} (xs : List (Option A)) → ((m : ℕ) → get_or xs m None ≡ None) → (m : ℕ) → get_or (xs ++ None ∷ []) m None ≡ None
none_more [] h zero = refl
none_more [] h (suc m) = refl
none_more (x ∷ xs) h zero = h 0
none_more (x ∷ xs) h (suc m) = none_more xs (λ k. h (suc k)) m

pub loop-init : goal.loop-init
loop-init c = (c.new-numbers.ensures.len, λ m. ap (λ xs. get_or xs m None) c.new-numbers.ensures.items)

pub loop-preserved : goal.loop-preserved
loop-preserved c =
    (c.in_ok-push.ensures.len ∙ ap (λ n. n + 1) c.loop.invariant.0, λ m. ap (λ xs. get_or xs m None) c.in_ok-push.ensures.items ∙ none_more c.loop.numbers.items c.loop.invariant.1 m)

pub returns : goal.returns
returns c = (omega arith, c.loop.invariant.1)
