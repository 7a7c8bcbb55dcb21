-- What is found among pairs, and what an edit of them does to it.
use Rattle.std.proofs.Common.{◌≡◌, ℕ, zero, suc, ◌<◌, ◌≤◌, ◌==◌, ◌≢◌, [], ◌∷◌, length, get_or, set, if◌then◌else◌, Some, None, refl, arith}
use Rattle.std.specs.List.{insert}
use Rattle.std.proofs.lemmas.Bool.Decides.{nat_tests}
use Rattle.bq_value.specs.Datum.{Datum, none}
use Rattle.bq_eval_frame.specs.Sparse.{Pairs, found, slot_at, IsAt, IsStrictlySorted, Binds}

-- no pair before this place has the slot
abbrev pub NoneBefore : Pairs → ℕ → ℕ → Type 0
NoneBefore ps k i = (j : ℕ) → j < i → slot_at ps j ≢ k

-- no pair of the tail has the slot either
none_before_tail : (p : ℕ × Datum) (ps : Pairs) (k i : ℕ) → NoneBefore (p ∷ ps) k (suc i) → NoneBefore ps k i
none_before_tail p ps k i before j lt = before (suc j) (omega arith)

-- in the tail, a pair is one place lower
is_at_tail : (p : ℕ × Datum) (ps : Pairs) (k i : ℕ) → IsAt (p ∷ ps) k (suc i) → IsAt ps k i
is_at_tail p ps k i is_at = record { in_range = omega (arith, is_at.in_range); has_slot = is_at.has_slot }

-- a slot that no pair has is not found
pub found_absent : (ps : Pairs) (k : ℕ) → NoneBefore ps k (length ps) → found ps k ≡ None
unfolding found
found_absent [] k before = refl
found_absent (p ∷ ps) k before = grind (arith, nat_tests, before 0 (omega arith), found_absent ps k (none_before_tail p ps k _ before))

-- the first pair that has the slot gives the value
pub found_present : (ps : Pairs) (k i : ℕ) → IsAt ps k i → NoneBefore ps k i → found ps k ≡ Some (get_or ps i (0, none)).1
unfolding found
found_present [] k i is_at before = absurd (omega (arith, is_at.in_range))
found_present (p ∷ ps) k zero is_at before = grind (arith, nat_tests, is_at.has_slot)
found_present (p ∷ ps) k (suc i) is_at before = grind (arith, nat_tests, before 0 (omega arith), found_present ps k i (is_at_tail p ps k i is_at) (none_before_tail p ps k i before))

-- writing over the first pair that has the slot changes its value
pub found-set : (ps : Pairs) (k : ℕ) (v : Datum) (i : ℕ) → IsAt ps k i → NoneBefore ps k i → Binds ps (set ps i (k, v)) k v
unfolding found
found-set [] k v i is_at before q = absurd (omega (arith, is_at.in_range))
found-set (p ∷ ps) k v zero is_at before q = grind (arith, nat_tests, is_at.has_slot)
found-set (p ∷ ps) k v (suc i) is_at before q = grind (arith, nat_tests, before 0 (omega arith), found-set ps k v i (is_at_tail p ps k i is_at) (none_before_tail p ps k i before) q)

-- so does a new pair before any pair that has the slot
pub found-insert : (ps : Pairs) (k : ℕ) (v : Datum) (i : ℕ) → NoneBefore ps k i → Binds ps (insert ps i (k, v)) k v
unfolding found
found-insert ps k v zero before q = refl
found-insert [] k v (suc i) before q = refl
found-insert (p ∷ ps) k v (suc i) before q = grind (arith, nat_tests, before 0 (omega arith), found-insert ps k v i (none_before_tail p ps k i before) q)
