-- A key gets out of its empty place: another goes last, without a value, and then takes the place of the key.
use Rattle.std.proofs.Common.{◌≡◌, ◌∙◌, ap, sym, refl, cond, ℕ, zero, suc, ◌-◌, ◌<◌, arith, Bool, true, false, [], ◌∷◌, ◌++◌, Option, Some, None, length, take, slice_set, slice_index_or}
use Rattle.std.specs.Prelude.{nat_lt, position, swap_remove}
use Rattle.std.specs.Map.{lookup}
use Rattle.std.specs.List.{position_or_len}
use Rattle.std.specs.Option.{option_map_or}
use Rattle.std.proofs.lemmas.Bool.{lt-ltb}
use Rattle.std.proofs.Math.Seq.{take-append_seam}
use Rattle.indexmap.specs.IndexMap.{swap_remove_entry, insert_entry}
use Rattle.bq_value_datum.specs.Datum.{Datum}
use Rattle.bq_value_datum.specs.Same.{same}
use Rattle.bq_value_dict.specs.Places.{Places, live, empty_from, is_empty}
use Rattle.bq_value_dict.proofs.Live.{first, first_is, keys_of}

last_by : (k : Datum) (o : Option Datum) (p : Datum × Option Datum) (ps : Places) (b : Bool) → cond b (Some p.1) (lookup (same k) ps) ≡ None
    → (lookup (same k) ps ≡ None → insert_entry same ps k o ≡ ps ++ (k, o) ∷ []) → cond b ((p.0, o) ∷ ps) (p ∷ insert_entry same ps k o) ≡ p ∷ (ps ++ (k, o) ∷ [])
last_by k o p ps true h more = absurd (cc)
last_by k o p ps false h more = ap (λ qs. p ∷ qs) (more h)

-- a key that isn't there goes last
put_last : (k : Datum) (o : Option Datum) (ps : Places) → lookup (same k) ps ≡ None → insert_entry same ps k o ≡ ps ++ (k, o) ∷ []
put_last k o [] h = refl
put_last k o (p ∷ ps) h = last_by k o p ps (same k p.0) h (put_last k o ps)

-- the last one takes a place before it
taken : (ps : Places) (i : ℕ) (x y : Datum × Option Datum) → i < length ps → take (length ps) (slice_set (ps ++ x ∷ []) i y) ≡ slice_set ps i y
taken [] i x y h = absurd (omega (arith, h))
taken (p ∷ ps) zero x y h = ap (λ r. y ∷ r) (take-append_seam ps (x ∷ []))
taken (p ∷ ps) (suc i) x y h = ap (λ r. p ∷ r) (taken ps i x y (omega (arith, h)))

last_is : (ps : Places) (x d : Datum × Option Datum) → slice_index_or (ps ++ x ∷ []) (length ps) d ≡ x
last_is [] x d = refl
last_is (p ∷ ps) x d = last_is ps x d

one_more : (ps : Places) (x : Datum × Option Datum) → length (ps ++ x ∷ []) ≡ suc (length ps)
one_more [] x = refl
one_more (p ∷ ps) x = ap suc (one_more ps x)

count_keys : (ps : Places) → length (keys_of ps) ≡ length ps
count_keys [] = refl
count_keys (p ∷ ps) = ap suc (count_keys ps)

first_by : (k : Datum) (ps : Places) (x : Datum × Option Datum) (b : Bool) → cond b 0 (suc (first k ps)) < suc (length ps) → (first k ps < length ps → first k (ps ++ x ∷ []) ≡ first k ps)
    → cond b 0 (suc (first k (ps ++ x ∷ []))) ≡ cond b 0 (suc (first k ps))
first_by k ps x true h more = refl
first_by k ps x false h more = ap suc (more (omega (arith, h)))

first_stays : (k : Datum) (ps : Places) (x : Datum × Option Datum) → first k ps < length ps → first k (ps ++ x ∷ []) ≡ first k ps
first_stays k [] x h = absurd (omega (arith, h))
first_stays k (p ∷ ps) x h = first_by k ps x (same k p.0) h (first_stays k ps x)

there : (n m : ℕ) → n < m → cond (nat_lt n m) (Some n) None ≡ Some n
there n m h = ap (λ b. cond b (Some n) None) (lt-ltb n m h)

placed : (k : Datum) (qs : Places) → first k qs < length qs → position (same k) (keys_of qs) ≡ Some (first k qs)
placed k qs h =
    let n : ℕ = position_or_len (same k) (keys_of qs) in
    there n (length (keys_of qs)) (omega (arith, h, first_is k qs, count_keys qs)) ∙ ap Some (sym (first_is k qs))

at_place : (qs : Places) (d : Datum × Option Datum) (i : ℕ) (o : Option ℕ) → o ≡ Some i → option_map_or (λ i. swap_remove qs i d) o qs ≡ swap_remove qs i d
at_place qs d i o e = ap (λ o. option_map_or (λ i. swap_remove qs i d) o qs) e

swapped : (k : Datum) (p : Datum × Option Datum) (ps : Places) (x : Datum × Option Datum) → first k (p ∷ ps) < length (p ∷ ps)
    → swap_remove_entry (same k) ((p ∷ ps) ++ x ∷ []) ≡ slice_set (p ∷ ps) (first k (p ∷ ps)) x
swapped k p ps x h =
    let qs : Places = (p ∷ ps) ++ x ∷ [] in
    let i : ℕ = first k (p ∷ ps) in
    let stays : first k qs ≡ i = first_stays k (p ∷ ps) x h in
    let place : position (same k) (keys_of qs) ≡ Some i = placed k qs (omega (arith, stays, h, one_more (p ∷ ps) x)) ∙ ap Some stays in
    let count : length qs - 1 ≡ length (p ∷ ps) = omega (arith, one_more (p ∷ ps) x) in
    let y : Datum × Option Datum = slice_index_or qs (length qs - 1) p in
    let last : y ≡ x = ap (λ n. slice_index_or qs n p) count ∙ last_is (p ∷ ps) x p in
    at_place qs p i _ place
    ∙ (ap (λ n. take n (slice_set qs i y)) count ∙ (taken (p ∷ ps) i x y h ∙ ap (slice_set (p ∷ ps) i) last))

within_by : (k : Datum) (o : Option Datum) (ps : Places) (b : Bool) → is_empty (cond b (Some o) (lookup (same k) ps)) ≡ true → (is_empty (lookup (same k) ps) ≡ true → first k ps < length ps)
    → cond b 0 (suc (first k ps)) < suc (length ps)
within_by k o ps true h more = omega arith
within_by k o ps false h more = omega (arith, more h)

within : (k : Datum) (ps : Places) → is_empty (lookup (same k) ps) ≡ true → first k ps < length ps
within k [] h = absurd (cc)
within k (p ∷ ps) h = within_by k p.1 ps (same k p.0) h (within k ps)

-- the places after a new key has taken that of an empty one
freed : (k : Datum) (ps : Places) (x : Datum × Option Datum) → is_empty (lookup (same k) ps) ≡ true → swap_remove_entry (same k) (ps ++ x ∷ []) ≡ slice_set ps (first k ps) x
freed k [] x h = absurd (cc)
freed k (p ∷ ps) x h = swapped k p ps x (within k (p ∷ ps) h)

pub freed_place : (k : Datum) (ps : Places) (j : Datum) → is_empty (lookup (same k) ps) ≡ true → lookup (same j) ps ≡ None
    → swap_remove_entry (same k) (insert_entry same ps j None) ≡ slice_set ps (first k ps) (j, None)
freed_place k ps j h new = ap (swap_remove_entry (same k)) (put_last j None ps new) ∙ freed k ps (j, None) h

live_some : (k i w j : Datum) (ps : Places) (b : Bool) → is_empty (cond b (Some (Some w)) (lookup (same k) ps)) ≡ true
    → (is_empty (lookup (same k) ps) ≡ true → live (slice_set ps (first k ps) (j, None)) ≡ live ps)
    → live (slice_set ((i, Some w) ∷ ps) (cond b 0 (suc (first k ps))) (j, None)) ≡ (i, w) ∷ live ps
live_some k i w j ps true h more = absurd (cc)
live_some k i w j ps false h more = ap (λ r. (i, w) ∷ r) (more h)

live_none : (k i j : Datum) (ps : Places) (b : Bool) → is_empty (cond b (Some None) (lookup (same k) ps)) ≡ true
    → (is_empty (lookup (same k) ps) ≡ true → live (slice_set ps (first k ps) (j, None)) ≡ live ps)
    → live (slice_set ((i, None) ∷ ps) (cond b 0 (suc (first k ps))) (j, None)) ≡ live ps
live_none k i j ps true h more = refl
live_none k i j ps false h more = more h

-- the pairs stay
pub live_freed : (k : Datum) (ps : Places) (j : Datum) → is_empty (lookup (same k) ps) ≡ true → live (slice_set ps (first k ps) (j, None)) ≡ live ps
live_freed k [] j h = absurd (cc)
live_freed k ((i, Some w) ∷ ps) j h = live_some k i w j ps (same k i) h (live_freed k ps j)
live_freed k ((i, None) ∷ ps) j h = live_none k i j ps (same k i) h (live_freed k ps j)

empty_some : (n : ℕ) (k i w j : Datum) (ps : Places) (b : Bool) → is_empty (cond b (Some (Some w)) (lookup (same k) ps)) ≡ true
    → (is_empty (lookup (same k) ps) ≡ true → empty_from (suc n) (slice_set ps (first k ps) (j, None)) ≡ empty_from (suc n) ps)
    → empty_from n (slice_set ((i, Some w) ∷ ps) (cond b 0 (suc (first k ps))) (j, None)) ≡ empty_from (suc n) ps
empty_some n k i w j ps true h more = absurd (cc)
empty_some n k i w j ps false h more = more h

empty_none : (n : ℕ) (k i j : Datum) (ps : Places) (b : Bool) → is_empty (cond b (Some None) (lookup (same k) ps)) ≡ true
    → (is_empty (lookup (same k) ps) ≡ true → empty_from (suc n) (slice_set ps (first k ps) (j, None)) ≡ empty_from (suc n) ps)
    → empty_from n (slice_set ((i, None) ∷ ps) (cond b 0 (suc (first k ps))) (j, None)) ≡ n ∷ empty_from (suc n) ps
empty_none n k i j ps true h more = refl
empty_none n k i j ps false h more = ap (λ r. n ∷ r) (more h)

-- and so do the empty places
pub empty_freed : (n : ℕ) (k : Datum) (ps : Places) (j : Datum) → is_empty (lookup (same k) ps) ≡ true → empty_from n (slice_set ps (first k ps) (j, None)) ≡ empty_from n ps
empty_freed n k [] j h = absurd (cc)
empty_freed n k ((i, Some w) ∷ ps) j h = empty_some n k i w j ps (same k i) h (empty_freed (suc n) k ps j)
empty_freed n k ((i, None) ∷ ps) j h = empty_none n k i j ps (same k i) h (empty_freed (suc n) k ps j)
