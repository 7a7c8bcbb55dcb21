-- Texts of values of a number of levels: a step for each of them, and at most 64.
use Rattle.std.proofs.Common.{◌≡◌, ◌∙◌, ◌+◌, ℕ, zero, suc, [], Ok, Err, ap, arith}
use Rattle.std.specs.Prelude.{codes}
use Rattle.bq_base.specs.declared.fault.EvalFault.TheVariants.{TooDeep}
use Rattle.bq_value.specs.Datum.{none, end, datum, list_of}
use Rattle.bq_value.specs.Cells.{StoreView}
use Rattle.bq_value.specs.Looked.{Looked}
use Rattle.bq_value.specs.WalkLaws.{nested}
use Rattle.bq_value_text.specs.Page.{PageView, written}
use Rattle.bq_value_text.specs.Leaf.{leaf_written}
use Rattle.bq_value_text.specs.Shown.{and_then, closed, tuple_end, shown_at, repr_shown}

one_more : (l n : ℕ) → suc l + n ≡ suc (l + n)
one_more l n = omega arith

last_one : (n : ℕ) → suc zero + n ≡ suc n
last_one n = omega arith

-- where a walk of one value ends, so does that of a tuple of it
abbrev alone : ℕ → Looked PageView → Looked PageView
alone l r = closed (tuple_end (list_of (datum (nested l) end))) (and_then r (λ p m. Ok (p, m)))

nested_shown : (l : ℕ) (s : StoreView) (page : PageView) (n : ℕ) → (p : PageView) × (shown_at (suc l) s page (suc l + n) (nested l) ≡ Ok (p, n))
unfolding nested
nested_shown zero s page n = (leaf_written page none, ap (λ (k : ℕ). shown_at (suc zero) s page k none) (last_one n))
nested_shown (suc l) s page n =
    let a = nested_shown l s (written (written page (codes "(")) []) n in
    (written a.0 (tuple_end (list_of (datum (nested l) end))), ap (λ (k : ℕ). shown_at (suc (suc l)) s page k (nested (suc l))) (one_more (suc l) n) ∙ ap (alone l) a.1)

nested_unshown : (l : ℕ) (s : StoreView) (page : PageView) (n : ℕ) → shown_at l s page (suc l + n) (nested l) ≡ Err TooDeep
unfolding nested
nested_unshown zero s page n = ap (λ (k : ℕ). shown_at zero s page k none) (last_one n)
nested_unshown (suc l) s page n =
    ap (λ (k : ℕ). shown_at (suc l) s page k (nested (suc l))) (one_more (suc l) n) ∙ ap (alone l) (nested_unshown l s (written (written page (codes "(")) []) n)

pub last_level : (s : StoreView) (page : PageView) (n : ℕ) → (p : PageView) × (repr_shown s page (64 + n) (nested 63) ≡ Ok (p, n))
unfolding repr_shown
last_level s page n = nested_shown 63 s page n

pub next_level : (s : StoreView) (page : PageView) (n : ℕ) → repr_shown s page (65 + n) (nested 64) ≡ Err TooDeep
unfolding repr_shown
next_level s page n = nested_unshown 64 s page n
