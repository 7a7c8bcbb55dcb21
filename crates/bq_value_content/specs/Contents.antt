-- What a cell holds: the values of a list, the pairs of a dict, or the attributes of a rule.
use Rattle.std.specs.Prelude.{◌≡◌, ℕ, List, length, Option, Some, refl}
use Rattle.std.specs.Coded.{Coded, code_by, coded×, coded⊎, coded_list}
use Rattle.std.proofs.Common.{◌⊎◌, inl, inr}
use Rattle.bq_value_datum.specs.Class.{Class}
use Rattle.bq_value_datum.specs.Datum.{Datum}
use Rattle.bq_value_datum.specs.Codes.{coded_class, coded_datum}
use Rattle.bq_value_dict.specs.Pairs.{HasNoKeyTwice, coded_pairs}

-- what a cell holds: a list's elements, a dict's pairs in order, or a rule's class
pub data Contents : Type 0 where
  items : List Datum → Contents
  pairs : List (Datum × Datum) → Contents
  rule : Class → Contents

-- how many elements a walk over it has
abbrev pub walk_length : Contents → ℕ
walk_length (items v) = length v
walk_length (pairs v) = length v
walk_length (rule c) = 0

-- a dict has no key twice
abbrev pub KeysDiffer : Option Contents → Type 0
KeysDiffer (Some (pairs ps)) = HasNoKeyTwice ps
KeysDiffer _ = Unit {0}

abbrev to_sum : Contents → List Datum ⊎ (List (Datum × Datum) ⊎ Class)
to_sum (items v) = inl v
to_sum (pairs v) = inr (inl v)
to_sum (rule c) = inr (inr c)

abbrev from_sum : List Datum ⊎ (List (Datum × Datum) ⊎ Class) → Contents
from_sum (inl v) = items v
from_sum (inr (inl v)) = pairs v
from_sum (inr (inr c)) = rule c

-- contents that are turned into a sum of the three kinds and back are themselves
pub from_sum-to_sum : (c : Contents) → from_sum (to_sum c) ≡ c
from_sum-to_sum (items v) = refl
from_sum-to_sum (pairs v) = refl
from_sum-to_sum (rule c) = refl

-- a code of each cell's contents, which no other contents have
abbrev pub coded_contents : Coded Contents
coded_contents =
    code_by (List Datum ⊎ (List (Datum × Datum) ⊎ Class)) (coded⊎ (coded_list coded_datum) (coded⊎ coded_pairs coded_class)) to_sum from_sum from_sum-to_sum
