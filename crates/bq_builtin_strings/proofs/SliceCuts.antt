-- Slices of lists that are put together of parts, and indices of their elements.
use Rattle.std.proofs.Common.{◌≡◌, ◌∙◌, ◌+◌, ◌-◌, ◌<◌, ◌≤◌, ℕ, zero, suc, pos, List, [], ◌∷◌, ◌++◌, length, take, get_or, Some, None, Ok, Err, refl, sym, ap, arith, length-append}
use Rattle.std.specs.Prelude.{◌*◌, negsuc, neg_ℤ, ◌+ℤ◌, ◌-ℤ◌, ◌<ℤ◌, reverse}
use Rattle.std.proofs.lemmas.Int.{ints, clamps}
use Rattle.std.proofs.lemmas.Bool.{lt-ltb, le-ltb, le-leb, lt-leb}
use Rattle.std.proofs.lemmas.List.{reverse-append}
use Rattle.std.proofs.lemmas.Option.{get_or_from_slice_get}
use Rattle.std.proofs.Math.Seq.{take-append_seam, drop-append_seam, take-length, take-suc}
use Rattle.bq_value.specs.Range.{range_count}
use Rattle.bq_value.proofs.Elements.{elements_counted}
use Rattle.bq_base.specs.declared.fault.EvalFault.TheVariants.{Index}
use Rattle.bq_builtin_strings.specs.Place.{clamped, indexed}
use Rattle.bq_builtin_strings.specs.Slice.{slice_start, slice_stop, taken, taken_by, slice_of}
use Rattle.bq_builtin_strings.proofs.Bounds.{lt_false}
use Rattle.bq_builtin_strings.proofs.Slices.{at_most, run_count, whole_slice}
use Rattle.bq_builtin_strings.proofs.SliceElements.{there, taken_run, taken_next}

pub taken_part : {A : Type 0} (before part after : List A) → taken_by (before ++ (part ++ after)) (pos (length before)) (pos (length before + length part)) (pos 1) ≡ part
unfolding taken_by
taken_part before part after =
    ap (λ (n : ℕ). taken (before ++ (part ++ after)) n (pos (length before)) (pos 1)) (run_count (length before) (length part))
    ∙ (taken_run (before ++ (part ++ after)) (length part) (length before) (omega (arith, length-append before (part ++ after), length-append part after))
    ∙ (ap (take (length part)) (drop-append_seam before (part ++ after)) ∙ take-append_seam part after))

-- a bound from the start, and one from the end
start_at : (len i : ℕ) → i ≤ len → slice_start (pos len) (pos 1) (Some (pos i)) ≡ pos i
start_at len i l = rw (lt_false (pos i) (pos 0) (omega (arith, ints))) (omega (arith, ints, clamps))

stop_at : (len i : ℕ) → i ≤ len → slice_stop (pos len) (pos 1) (Some (pos i)) ≡ pos i
stop_at len i l = rw (lt_false (pos i) (pos 0) (omega (arith, ints))) (omega (arith, ints, clamps))

start_back : (len n i : ℕ) → 0 < n → i + n ≡ len → slice_start (pos len) (pos 1) (Some (neg_ℤ (pos n))) ≡ pos i
start_back len zero i p e = absurd (omega (arith, p))
start_back len (suc n) i p e = omega (arith, ints, clamps)

stop_back : (len n i : ℕ) → 0 < n → i + n ≡ len → slice_stop (pos len) (pos 1) (Some (neg_ℤ (pos n))) ≡ pos i
stop_back len zero i p e = absurd (omega (arith, p))
stop_back len (suc n) i p e = omega (arith, ints, clamps)

-- bounds past the ends
start_past : (len n : ℕ) → len ≤ n → slice_start (pos len) (pos 1) (Some (neg_ℤ (pos n))) ≡ pos 0
start_past len zero l = start_at len 0 (omega (arith, l))
start_past len (suc n) l = omega (arith, ints, clamps)

stop_past : (len n : ℕ) → len ≤ n → slice_stop (pos len) (pos 1) (Some (pos n)) ≡ pos len
stop_past len n l = rw (lt_false (pos n) (pos 0) (omega (arith, ints))) (omega (arith, ints, clamps))

lengths : {A : Type 0} (before part after : List A) → length (before ++ (part ++ after)) ≡ length before + (length part + length after)
lengths before part after = length-append before (part ++ after) ∙ ap (λ n. length before + n) (length-append part after)

pub part_from_start : {A : Type 0} (before part after : List A)
    → slice_of (before ++ (part ++ after)) (Some (pos (length before))) (Some (pos (length before + length part))) (pos 1) ≡ part
part_from_start before part after =
    let e = lengths before part after in
    rw (start_at (length (before ++ (part ++ after))) (length before) (omega (arith, e)))
    (rw (stop_at (length (before ++ (part ++ after))) (length before + length part) (omega (arith, e))) (taken_part before part after))

pub part_from_end : {A : Type 0} (before part after : List A) → 0 < length after
    → slice_of (before ++ (part ++ after)) (Some (neg_ℤ (pos (length part + length after)))) (Some (neg_ℤ (pos (length after)))) (pos 1) ≡ part
part_from_end before part after p =
    let e = lengths before part after in
    rw (start_back (length (before ++ (part ++ after))) (length part + length after) (length before) (omega (arith, p)) (omega (arith, e)))
    (rw (stop_back (length (before ++ (part ++ after))) (length after) (length before + length part) p (omega (arith, e))) (taken_part before part after))

pub past_the_ends : {A : Type 0} (xs : List A) (m n : ℕ) → length xs ≤ m → length xs ≤ n → slice_of xs (Some (neg_ℤ (pos m))) (Some (pos n)) (pos 1) ≡ xs
past_the_ends xs m n l h = rw (start_past (length xs) m l) (rw (stop_past (length xs) n h) (whole_slice xs))

-- the other way around
down_count : (n : ℕ) → range_count (pos n -ℤ pos 1) (negsuc 0) (negsuc 0) ≡ n
down_count n =
    let c : ℕ = range_count (pos n -ℤ pos 1) (negsuc 0) (negsuc 0) in
    let up : c ≤ n = at_most c n (λ l. let b : negsuc 0 <ℤ ((pos n -ℤ pos 1) +ℤ neg_ℤ (pos (n * 1))) = (elements_counted (pos n -ℤ pos 1) (negsuc 0) (negsuc 0) n (λ e. cc)).0 l in omega (arith, ints, b)) in
    let down : n ≤ c = at_most n c (λ l. let b : negsuc 0 <ℤ ((pos n -ℤ pos 1) +ℤ neg_ℤ (pos (c * 1))) = omega (arith, ints, l) in
    let m : c < c = (elements_counted (pos n -ℤ pos 1) (negsuc 0) (negsuc 0) c (λ e. cc)).1 b in omega (arith, m)) in
    omega (arith, up, down)

taken_down : {A : Type 0} (xs : List A) (n : ℕ) → n ≤ length xs → taken xs n (pos n -ℤ pos 1) (negsuc 0) ≡ reverse (take n xs)
taken_down xs zero l = refl
taken_down xs (suc n) l =
    let t = there xs n (omega (arith, l)) in
    let at : pos (suc n) -ℤ pos 1 ≡ pos n = omega (arith, ints) in
    let back : pos n +ℤ negsuc 0 ≡ pos n -ℤ pos 1 = omega (arith, ints) in
    let last : get_or xs n t.0 ≡ t.0 = get_or_from_slice_get xs n t.0 t.0 t.1 in
    let more : take (suc n) xs ≡ take n xs ++ (t.0 ∷ []) = take-suc xs n t.0 (omega (arith, l)) ∙ ap (λ x. take n xs ++ (x ∷ [])) last in
    ap (λ i. taken xs (suc n) i (negsuc 0)) at
    ∙ (taken_next xs n (pos n) (negsuc 0) t.0 t.1
    ∙ (ap (λ i. t.0 ∷ taken xs n i (negsuc 0)) back
    ∙ (ap (λ ys. t.0 ∷ ys) (taken_down xs n (omega (arith, l)))
    ∙ (sym (reverse-append (take n xs) (t.0 ∷ [])) ∙ ap reverse (sym more)))))

pub backwards : {A : Type 0} (xs : List A) → slice_of xs None None (negsuc 0) ≡ reverse xs
unfolding taken_by
backwards xs =
    ap (λ (n : ℕ). taken xs n (pos (length xs) -ℤ pos 1) (negsuc 0)) (down_count (length xs)) ∙ (taken_down xs (length xs) (omega arith) ∙ ap reverse (take-length xs))

-- indices
split : {A : Type 0} (before : List A) (x : A) (after : List A) → length (before ++ x ∷ after) ≡ length before + suc (length after)
split before x after = length-append before (x ∷ after)

pub index_from_start : {A : Type 0} (before : List A) (x : A) (after : List A) → indexed (length (before ++ x ∷ after)) (pos (length before)) ≡ Ok (length before)
index_from_start before x after = rw (lt-ltb (length before) (length (before ++ x ∷ after)) (omega (arith, split before x after))) refl

pub index_from_end : {A : Type 0} (before : List A) (x : A) (after : List A) → indexed (length (before ++ x ∷ after)) (negsuc (length after)) ≡ Ok (length before)
index_from_end before x after =
    let e : length (before ++ x ∷ after) - suc (length after) ≡ length before = omega (arith, split before x after) in
    rw (le-leb (suc (length after)) (length (before ++ x ∷ after)) (omega (arith, split before x after))) (ap Ok e)

pub index_past : (len n : ℕ) → len ≤ n → (indexed len (pos n) ≡ Err Index) × (indexed len (negsuc n) ≡ Err Index)
index_past len n l = (rw (le-ltb n len l) refl, rw (lt-leb (suc n) len (omega (arith, l))) refl)

pub place_from_end : {A : Type 0} (before after : List A) → 0 < length after → clamped (length (before ++ after)) (neg_ℤ (pos (length after))) ≡ length before
place_from_end before [] p = absurd (omega (arith, p))
place_from_end before (x ∷ after) p = omega (arith, split before x after)

pub place_from_start : {A : Type 0} (before after : List A) → clamped (length (before ++ after)) (pos (length before)) ≡ length before
place_from_start before after = omega (arith, length-append before after)

pub places_past : (len n : ℕ) → len ≤ n → (clamped len (pos n) ≡ len) × (clamped len (neg_ℤ (pos n)) ≡ 0)
places_past len zero l = (omega (arith, l), omega (arith, l))
places_past len (suc n) l = (omega (arith, l), omega (arith, l))
