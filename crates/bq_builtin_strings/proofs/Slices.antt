-- What a slice takes.
use Rattle.std.proofs.Common.{◌≡◌, ◌≢◌, ◌∙◌, ◌+◌, ◌*◌, ◌≤◌, List, length, ap, ◌<◌, ℕ, zero, suc, ℤ, pos, Option, Some, None, refl, inl, inr, arith}
use Rattle.std.specs.Prelude.{negsuc, neg_ℤ, ◌+ℤ◌, ◌-ℤ◌, ◌<ℤ◌, ◌≤ℤ◌}
use Rattle.std.proofs.lemmas.Int.{ints, clamps}
use Rattle.std.proofs.lemmas.Bool.{cases_lt}
use Rattle.std.proofs.Math.Seq.{take-length}
use Rattle.bq_value.specs.Range.{range_count, range_element}
use Rattle.bq_value.proofs.Elements.{elements_counted}
use Rattle.bq_builtin_strings.specs.Slice.{nearest, slice_start, slice_stop, taken, taken_by, slice_of, AreElements}
use Rattle.bq_builtin_strings.proofs.Bounds.{lt_false}
use Rattle.bq_builtin_strings.proofs.SliceElements.{taken_elements, taken_run}

low_end : (len low high other : ℤ) (index : Option ℤ) → low ≤ℤ high → low ≤ℤ other → low ≤ℤ nearest len low high index other
low_end len low high other None l m = m
low_end len low high other (Some i) l m = omega (arith, ints, clamps)

high_end : (len low high other : ℤ) (index : Option ℤ) → low ≤ℤ high → other ≤ℤ high → nearest len low high index other ≤ℤ high
high_end len low high other None l m = m
high_end len low high other (Some i) l m = omega (arith, ints, clamps)

start_up : (len : ℕ) (c : ℕ) (start : Option ℤ) → pos 0 ≤ℤ slice_start (pos len) (pos (suc c)) start
start_up len c start = rw (lt_false (pos (suc c)) (pos 0) (omega (arith, ints))) (low_end (pos len) (pos 0) (pos len) (pos 0) start (omega (arith, ints)) (omega (arith, ints)))

stop_up : (len : ℕ) (c : ℕ) (stop : Option ℤ) → slice_stop (pos len) (pos (suc c)) stop ≤ℤ pos len
stop_up len c stop = rw (lt_false (pos (suc c)) (pos 0) (omega (arith, ints))) (high_end (pos len) (pos 0) (pos len) (pos len) stop (omega (arith, ints)) (omega (arith, ints)))

start_down : (len : ℕ) (c : ℕ) (start : Option ℤ) → slice_start (pos len) (negsuc c) start ≤ℤ (pos len -ℤ pos 1)
start_down len c start = high_end (pos len) (negsuc 0) (pos len -ℤ pos 1) (pos len -ℤ pos 1) start (omega (arith, ints)) (omega (arith, ints))

stop_down : (len : ℕ) (c : ℕ) (stop : Option ℤ) → negsuc 0 ≤ℤ slice_stop (pos len) (negsuc c) stop
stop_down len c stop = low_end (pos len) (negsuc 0) (pos len -ℤ pos 1) (negsuc 0) stop (omega (arith, ints)) (omega (arith, ints))

up_within : (len k c : ℕ) (start stop : ℤ) → pos 0 ≤ℤ start → stop ≤ℤ pos len → k < range_count start stop (pos (suc c))
    → (pos 0 ≤ℤ range_element start (pos (suc c)) k) × (range_element start (pos (suc c)) k <ℤ pos len)
up_within len k c start stop low high l =
    let before : (start +ℤ pos (k * suc c)) <ℤ stop = (elements_counted start stop (pos (suc c)) k (λ e. cc)).0 l in
    let from : pos 0 ≤ℤ (start +ℤ pos (k * suc c)) = omega (arith, ints, low) in
    let to : (start +ℤ pos (k * suc c)) <ℤ pos len = omega (arith, ints, before, high) in
    (from, to)

down_within : (len k c : ℕ) (start stop : ℤ) → start ≤ℤ (pos len -ℤ pos 1) → negsuc 0 ≤ℤ stop → k < range_count start stop (negsuc c)
    → (pos 0 ≤ℤ range_element start (negsuc c) k) × (range_element start (negsuc c) k <ℤ pos len)
down_within len k c start stop high low l =
    let after : stop <ℤ (start +ℤ neg_ℤ (pos (k * suc c))) = (elements_counted start stop (negsuc c) k (λ e. cc)).0 l in
    let from : pos 0 ≤ℤ (start +ℤ neg_ℤ (pos (k * suc c))) = omega (arith, ints, after, low) in
    let to : (start +ℤ neg_ℤ (pos (k * suc c))) <ℤ pos len = omega (arith, ints, high) in
    (from, to)

-- each place is that of an element
pub places_within : (len : ℕ) (start stop : Option ℤ) (step : ℤ) (k : ℕ) → (step ≢ pos 0)
    → k < range_count (slice_start (pos len) step start) (slice_stop (pos len) step stop) step
    → (pos 0 ≤ℤ range_element (slice_start (pos len) step start) step k) × (range_element (slice_start (pos len) step start) step k <ℤ pos len)
places_within len start stop (pos zero) k apart l = absurd (apart refl)
places_within len start stop (pos (suc c)) k apart l =
    up_within len k c (slice_start (pos len) (pos (suc c)) start) (slice_stop (pos len) (pos (suc c)) stop) (start_up len c start) (stop_up len c stop) l
places_within len start stop (negsuc c) k apart l =
    down_within len k c (slice_start (pos len) (negsuc c) start) (slice_stop (pos len) (negsuc c) stop) (start_down len c start) (stop_down len c stop) l

-- as many elements as places, each that of its place
pub elements_of_slice : {A : Type 0} (xs : List A) (start stop : Option ℤ) (step : ℤ) → (step ≢ pos 0)
    → AreElements xs (range_count (slice_start (pos (length xs)) step start) (slice_stop (pos (length xs)) step stop) step) (slice_start (pos (length xs)) step start) step (slice_of xs start stop step)
unfolding taken_by
elements_of_slice xs start stop step apart =
    taken_elements xs (range_count (slice_start (pos (length xs)) step start) (slice_stop (pos (length xs)) step stop) step) (slice_start (pos (length xs)) step start) step
    (λ k l. places_within (length xs) start stop step k apart l)

pub at_most : (m n : ℕ) → (n < m → ⊥) → m ≤ n
at_most m n h = elim (cases_lt n m) [ inl l ↦ absurd (h l) | inr l ↦ l ]

-- a number of places are from one to another, by steps of 1
pub run_count : (i n : ℕ) → range_count (pos i) (pos (i + n)) (pos 1) ≡ n
run_count i n =
    let c : ℕ = range_count (pos i) (pos (i + n)) (pos 1) in
    let up : c ≤ n = at_most c n (λ l. let b : (pos i +ℤ pos (n * 1)) <ℤ pos (i + n) = (elements_counted (pos i) (pos (i + n)) (pos 1) n (λ e. cc)).0 l in omega (arith, ints, b)) in
    let down : n ≤ c = at_most n c (λ l. let b : (pos i +ℤ pos (c * 1)) <ℤ pos (i + n) = omega (arith, ints, l) in
    let m : c < c = (elements_counted (pos i) (pos (i + n)) (pos 1) c (λ e. cc)).1 b in omega (arith, m)) in
    omega (arith, up, down)

pub whole_slice : {A : Type 0} (xs : List A) → slice_of xs None None (pos 1) ≡ xs
unfolding taken_by
whole_slice xs =
    let e : length xs ≡ 0 + length xs = omega arith in
    let c : range_count (pos 0) (pos (length xs)) (pos 1) ≡ length xs = ap (λ (n : ℕ). range_count (pos 0) (pos n) (pos 1)) e ∙ run_count 0 (length xs) in
    ap (λ (n : ℕ). taken xs n (pos 0) (pos 1)) c ∙ (taken_run xs (length xs) 0 (omega arith) ∙ take-length xs)
