-- The places of a slice (Starlark, "Slice expressions"): a range that goes from the first bound by the step, up to before the second
-- bound, or down to after it where the step is negative. A negative bound counts from the end.
use Rattle.std.specs.Prelude.{◌≡◌, ◌<◌, ℕ, zero, suc, cond, ℤ, pos, negsuc, ◌+ℤ◌, ◌-ℤ◌, ◌*ℤ◌, int_lt, List, [], ◌∷◌, slice_get, length, Option, Some, None}
use Rattle.std.specs.Int.{int_min, int_max}
use Rattle.bq_value.specs.Range.{range_count, range_element}

-- counted from the start
abbrev pub from_start : ℤ → ℤ → ℤ
from_start len index = cond (int_lt index (pos 0)) (index +ℤ len) index

-- the nearest number from the low end to the high one; another where no index is given
abbrev pub nearest : ℤ → ℤ → ℤ → Option ℤ → ℤ → ℤ
nearest len low high (Some index) other = int_min (int_max (from_start len index) low) high
nearest len low high None other = other

-- where a slice starts: going up, at the first element, if no bound is given, and at most after the last; going down, at the last,
-- and at least before the first
abbrev pub slice_start : ℤ → ℤ → Option ℤ → ℤ
slice_start len step start = cond (int_lt step (pos 0)) (nearest len (negsuc 0) (len -ℤ pos 1) start (len -ℤ pos 1)) (nearest len (pos 0) len start (pos 0))

-- where it stops: going up, after the last element; going down, before the first
abbrev pub slice_stop : ℤ → ℤ → Option ℤ → ℤ
slice_stop len step stop = cond (int_lt step (pos 0)) (nearest len (negsuc 0) (len -ℤ pos 1) stop (negsuc 0)) (nearest len (pos 0) len stop len)

-- how many places a slice of a list of this length has
abbrev pub slice_count : ℕ → Option ℤ → Option ℤ → ℤ → ℕ
slice_count len start stop step = range_count (slice_start (pos len) step start) (slice_stop (pos len) step stop) step

-- the place of that number, from 0
abbrev pub slice_place : ℕ → Option ℤ → ℤ → ℕ → ℤ
slice_place len start step k = range_element (slice_start (pos len) step start) step k

-- the element at a place, where there is one
abbrev pub element_at : {A : Type 0} → List A → ℤ → Option A
element_at xs (pos k) = slice_get xs k
element_at xs (negsuc k) = None

-- the elements at a number of places, from one on by a step
abbrev pub taken : {A : Type 0} → List A → ℕ → ℤ → ℤ → List A
taken xs zero at step = []
taken xs (suc count) at step = elim (element_at xs at) [ Some x ↦ x ∷ taken xs count (at +ℤ step) step | None ↦ taken xs count (at +ℤ step) step ]

-- the elements at the places of a range
unfoldable pub taken_by : {A : Type 0} → List A → ℤ → ℤ → ℤ → List A
taken_by xs start stop step = taken xs (range_count start stop step) start step

-- `xs[start:stop:step]`, where the step isn't 0
abbrev pub slice_of : {A : Type 0} → List A → Option ℤ → Option ℤ → ℤ → List A
slice_of xs start stop step = taken_by xs (slice_start (pos (length xs)) step start) (slice_stop (pos (length xs)) step stop) step

-- these are the elements at `n` places, in their order, and no others
pub record AreElements {A : Type 0} (xs : List A) (n : ℕ) (at step : ℤ) (ys : List A) : Type 0 where
  pub count : length ys ≡ n
  pub each : (k : ℕ) → k < n → slice_get ys k ≡ element_at xs (at +ℤ (pos k *ℤ step))
