-- What a search finds among pairs in the order of their slots, and what an edit at that place does.
use Rattle.std.proofs.Common.{◌≡◌, ℕ, ◌+◌, ◌-◌, ◌<◌, ◌≤◌, length, get_or, set, Some, None, Result, Ok, Err, IfOk, IfErr, sym, ap, subst, arith}
use Rattle.std.specs.List.{insert}
use Rattle.std.specs.List.Sorted.{IsSearchInRange, IsBinarySearchResult, IsNonDecreasingBy}
use Rattle.std.specs.Ordering.{nat_cmp, ordering_index}
use Rattle.std.proofs.lemmas.Cmp.{ranked}
use Rattle.std.proofs.lemmas.List.Sorted.{IsNonDecreasingBy-from_default}
use Rattle.std.proofs.lemmas.List.Edits.{length-insert, get_or-insert_below, get_or-insert_at, get_or-insert_above}
use Rattle.std.proofs.lemmas.Bool.Decides.{nat_tests}
use Rattle.std.proofs.lemmas.Grind.{common_steps}
use Rattle.bq_value.specs.Datum.{Datum, none}
use Rattle.bq_eval_frame.specs.Sparse.{Pairs, found, slot_at, IsStrictlySorted, IsAt, IsGapFor, Binds}
use Rattle.bq_eval_frame.proofs.SparsePairs.{NoneBefore, found_absent, found_present, found-set, found-insert}

module _ (ps : Pairs) (sorted : IsStrictlySorted ps) (k : ℕ) where
  -- the comparisons with the slot rise along the pairs, as a binary search asks
  comparisons_rise : IsNonDecreasingBy (λ p. ordering_index (nat_cmp p.0 k)) ps
  comparisons_rise = IsNonDecreasingBy-from_default (λ p. ordering_index (nat_cmp p.0 k)) ps (0, none) (λ i j le in_range.
      let slots_rise : slot_at ps i ≤ slot_at ps j = grind (arith, sorted i j, λ (same : i ≡ j). ap (slot_at ps) same) in
      grind (arith, nat_tests))

  -- it ends at the slot, or at the gap for it
  pub searched : (r : Result ℕ ℕ) → IsSearchInRange r (length ps) → IsBinarySearchResult (λ p. nat_cmp p.0 k) ps r → record { found : IfOk r (IsAt ps k); absent : IfErr r (IsGapFor ps k) }
  searched (Ok at) in_range equal = record { found = record { in_range = in_range; has_slot = ranked _ k _ (sym (equal (0, none))) }; absent = tt }
  searched (Err at) in_range parted = record {
    found = tt;
    absent = record {
      in_range = in_range;
      smaller_before = λ j lt. ranked _ k _ (sym ((parted comparisons_rise).0 j (0, none) (omega arith) lt));
      greater_after = λ j le lt. ranked _ k _ (sym ((parted comparisons_rise).1 j (0, none) le lt));
    };
  }

module _ (ps : Pairs) (sorted : IsStrictlySorted ps) (k at : ℕ) (is_at : IsAt ps k at) where
  -- the slots before the place are smaller, so none is this one
  none_before_at : NoneBefore ps k at
  none_before_at j lt same = omega (arith, sorted j at lt is_at.in_range, is_at.has_slot)

  -- the slot is found at its place
  pub found_at : found ps k ≡ Some (get_or ps at (0, none)).1
  found_at = found_present ps k at is_at none_before_at

  -- writing over its pair changes that slot alone
  pub binds_set : (v : Datum) → Binds ps (set ps at (k, v)) k v
  binds_set v = found-set ps k v at is_at none_before_at

  -- and keeps the order, since every slot stays
  pub sorted_set : (v : Datum) → IsStrictlySorted (set ps at (k, v))
  sorted_set v i j lt in_range = grind (arith, common_steps, sorted i j, sorted i at, sorted at j, is_at.in_range, is_at.has_slot)

module _ (ps : Pairs) (k at : ℕ) (gap : IsGapFor ps k at) where
  -- a slot that has a gap is not found
  pub found_in_gap : found ps k ≡ None
  found_in_gap = found_absent ps k (λ j lt same. grind (arith, gap.smaller_before j, gap.greater_after j))

  -- a new pair in the gap changes that slot alone
  pub binds_insert : (v : Datum) → Binds ps (insert ps at (k, v)) k v
  binds_insert v = found-insert ps k v at (λ j lt same. omega (arith, gap.smaller_before j lt))

  -- it keeps the order: each new slot is an old one below the gap, this one at it, or an old one moved up by one
  pub sorted_insert : (v : Datum) → IsStrictlySorted ps → IsStrictlySorted (insert ps at (k, v))
  sorted_insert v sorted i j lt in_range =
      let new = insert ps at (k, v) in
      let slot = λ (p : ℕ × Datum). p.0 in
      let length_new = length-insert ps at (k, v) gap.in_range in
      let slot_below : (i : ℕ) → i < at → slot_at new i ≡ slot_at ps i = λ i below. ap slot (get_or-insert_below ps at (k, v) (0, none) i below gap.in_range) in
      let slot_here : (i : ℕ) → i ≡ at → slot_at new i ≡ k = λ i here. rw here (ap slot (get_or-insert_at ps at (k, v) (0, none) gap.in_range)) in
      let slot_above : (i : ℕ) → at < i → slot_at new i ≡ slot_at ps (i - 1) = λ i above. subst (λ q. slot_at new q ≡ slot_at ps (i - 1)) {x = i - 1 + 1} (omega arith) (ap slot (get_or-insert_above ps at (k, v) (0, none) (i - 1) (omega arith) gap.in_range)) in
      grind (arith, slot_below i, slot_here i, slot_above i, slot_below j, slot_here j, slot_above j, sorted i j, sorted i (j - 1), sorted (i - 1) (j - 1), gap.smaller_before i, gap.greater_after (j - 1))
