-- What the clauses of a comprehension bind: pairs of a slot and a value, in the order of the slots.
use Rattle.std.specs.Prelude.{◌≡◌, ℕ, ◌<◌, ◌≤◌, ◌==◌, List, [], ◌∷◌, length, slice_index_or, Option, Some, None, if◌then◌else◌}
use Rattle.bq_value.specs.Datum.{Datum, none}

-- slots, each with its value
abbrev pub Pairs : Type 0
Pairs = List (ℕ × Datum)

-- the value of the first pair that has the slot
unfoldable pub found : Pairs → ℕ → Option Datum
found [] slot = None
found ((s, v) ∷ rest) slot = if slot == s then Some v else found rest slot

-- the slot of the pair at a place
abbrev pub slot_at : Pairs → ℕ → ℕ
slot_at ps i = let pair = slice_index_or ps i (0, none) in pair.0

-- the slots rise, so that none comes twice
abbrev pub IsStrictlySorted : Pairs → Type 0
IsStrictlySorted ps = (i j : ℕ) → i < j → j < length ps → slot_at ps i < slot_at ps j

-- the pair at this place has the slot
pub record IsAt (ps : Pairs) (slot i : ℕ) : Type 0 where
  pub in_range : i < length ps
  pub has_slot : slot_at ps i ≡ slot

-- the slot would go to this place: smaller ones before it, and greater ones from it on
pub record IsGapFor (ps : Pairs) (slot i : ℕ) : Type 0 where
  pub in_range : i ≤ length ps
  pub smaller_before : (j : ℕ) → j < i → slot_at ps j < slot
  pub greater_after : (j : ℕ) → i ≤ j → j < length ps → slot < slot_at ps j

-- the new pairs have the value in the slot, and in each other slot what the old ones have
abbrev pub Binds : Pairs → Pairs → ℕ → Datum → Type 0
Binds old new slot v = (other : ℕ) → found new other ≡ (if other == slot then Some v else found old other)
