-- Ranges (Starlark, "range"): the integers start, start + step, start + 2 * step, .. that lie before stop.
use Rattle.std.specs.Prelude.{ℕ, ◌+◌, ◌-◌, ◌/◌, Bool, cond, ◌&&◌, ◌||◌, ℤ, pos, ◌-ℤ◌, ◌+ℤ◌, ◌*ℤ◌, ◌<ℤ◌, int_lt, unsigned_abs, ◌==◌}
use Rattle.std.specs.Ordering.{int_eq}

-- an element of that step lies before the end
abbrev pub IsBefore : ℤ → ℤ → ℤ → Type 0
IsBefore element stop (pos step) = element <ℤ stop
IsBefore element stop _ = stop <ℤ element

-- the element of that number, from 0
abbrev pub range_element : ℤ → ℤ → ℕ → ℤ
range_element start step k = start +ℤ (pos k *ℤ step)

-- how many steps of that size lead from one integer up to below another
unfoldable pub steps_between : ℤ → ℤ → ℤ → ℕ
steps_between low high step = cond (int_lt low high) ((unsigned_abs (high -ℤ low) - 1) / unsigned_abs step + 1) 0

-- how many elements
unfoldable pub range_count : ℤ → ℤ → ℤ → ℕ
range_count start stop step = cond (int_lt (pos 0) step) (steps_between start stop step) (cond (int_lt step (pos 0)) (steps_between stop start step) 0)

-- the same elements, without a walk over them: as many, and where there are any, the same first one, and where there
-- are two, the same step
unfoldable pub ranges_same : ℤ → ℤ → ℤ → ℤ → ℤ → ℤ → Bool
ranges_same a b c d e f =
    (range_count a b c == range_count d e f) && ((range_count a b c == 0) || (int_eq a d && ((range_count a b c == 1) || int_eq c f)))
