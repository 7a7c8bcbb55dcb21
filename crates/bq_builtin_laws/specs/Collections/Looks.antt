-- What the methods that look into a list or dict answer, in words of its elements.
use Rattle.std.specs.Prelude.{◌≡◌, ◌<◌, ◌≤◌, ◌⊎◌, ℕ, ℤ, pos, Bool, true, false, List, length, map, slice_get, Option, Some, Ok}
use Rattle.std.specs.List.{Contains}
use Rattle.bq_value.specs.Datum.{Datum, int, or_none}
use Rattle.bq_builtin_machine.specs.Action.{done}
use Rattle.bq_builtin_machine.specs.Machine.{looked_equal}
use Rattle.bq_builtin_machine.specs.State.{State}
use Rattle.bq_builtin_strings.specs.Place.{bound}
use Rattle.bq_builtin_methods.specs.Arguments.{one_or_two, one_to_three, optional_integer}
use Rattle.bq_builtin_methods.specs.Dict as dict
use Rattle.bq_builtin_methods.specs.List as list
use Rattle.bq_builtin_methods.specs.PairsGiven.{Pairs}
use Rattle.bq_builtin_laws.specs.Collections.Laws.{IsList, IsDict}

-- `get` of a dict of these pairs gave the answer; it was called with a key and, if there is one, a value for a key that isn't there
pub record Gets (ps : Pairs) (default : Option Datum) (answer : Datum) (s t : State) : Type 0 where
  pub home : ℕ
  pub number : ℕ
  pub known : IsDict s home number ps
  pub key : Datum
  pub args : List Datum
  pub asked : one_or_two args ≡ Ok (key, default)
  pub run : dict.get home number args s ≡ done answer t

-- the answer is the value of one of these pairs, or the value for a key that isn't there; lists and dicts are as they were
pub record OnlyLooks (ps : List (Datum × Datum)) (default : Option Datum) (answer : Datum) (s t : State) : Type 0 where
  pub value : Contains (map (λ p. p.1) ps) answer ⊎ (answer ≡ or_none default)
  pub same : t.store ≡ s.store

-- `index` of a list of these elements gave the answer; it was called with this value, a start and an end, each of which may be left out
pub record FindsIndex (xs : List Datum) (v : Datum) (start end : Option ℤ) (answer : Datum) (s : State) : Type 0 where
  pub home : ℕ
  pub number : ℕ
  pub known : IsList s home number xs
  pub from : Option Datum
  pub to : Option Datum
  pub from_is : optional_integer from ≡ Ok start
  pub to_is : optional_integer to ≡ Ok end
  pub args : List Datum
  pub asked : one_to_three args ≡ Ok (v, (from, to))
  pub after : State
  pub run : list.index home number args s ≡ done answer after

-- the two were compared, with this answer
pub record IsCompared (s : State) (a b : Datum) (equal : Bool) : Type 0 where
  pub steps : ℕ
  pub left : ℕ
  pub by : looked_equal s.store steps a b ≡ Ok (equal, left)

-- The answer is a place of the list, between two others: the element there is equal to the value, and none before it is, from the first
-- of the two on.
pub record IsFirstPlace (xs : List Datum) (v : Datum) (low high : ℕ) (answer : Datum) (s : State) : Type 0 where
  pub place : ℕ
  pub is : answer ≡ int (pos place)
  pub from : low ≤ place
  pub below : place < high
  pub element : Datum
  pub there : slice_get xs place ≡ Some element
  pub equal : IsCompared s element v true
  pub before : (k : ℕ) (x : Datum) → low ≤ k → k < place → slice_get xs k ≡ Some x → IsCompared s x v false

-- the same, where the two clamp as the bounds of a slice
abbrev pub IsFirstIndex : List Datum → Datum → Option ℤ → Option ℤ → Datum → State → Type 0
IsFirstIndex xs v start end answer s = IsFirstPlace xs v (bound (length xs) 0 start) (bound (length xs) (length xs) end) answer s
