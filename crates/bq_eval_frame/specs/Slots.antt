-- The frame that slots are: a list of them, and what the clauses of comprehensions bind over those of a function.
use Rattle.std.specs.Prelude.{ℕ, List, [], ◌∷◌, map, Option, Some, None, slice_get}
use Rattle.bq_value.specs.Datum.{Datum}
use Rattle.bq_eval_spec.specs.Frame.{Frame}
use Rattle.bq_eval_frame.specs.Sparse.{Pairs, found}
use Rattle.bq_eval_frame.specs.declared.inner.Inner.{Inner}

-- what the slot has; nothing where there is no such slot
abbrev pub in_slot : Option (Option Datum) → Option Datum
in_slot None = None
in_slot (Some v) = v

-- past the end every slot is empty
unfoldable pub list_slots : List (Option Datum) → Frame
list_slots slots = λ slot. in_slot (slice_get slots slot)

-- the first, if it is there, or the other
abbrev pub or_else : Option Datum → Option Datum → Option Datum
or_else None other = other
or_else (Some v) other = Some v

-- what comprehensions bind, the innermost first, over the slots of a function
unfoldable pub layered : List Pairs → List (Option Datum) → Frame
layered [] slots = list_slots slots
layered (ps ∷ rest) slots = λ slot. or_else (found ps slot) (layered rest slots slot)

-- what comprehensions bind, the innermost first, and the slots of the function; nothing outside comprehensions
abbrev pub layers_of : Option Inner → List Pairs × List (Option Datum)
layers_of None = ([], [])
layers_of (Some x) = (x.bound ∷ map (λ b. b.now) x.around.items, x.function.now)

-- a list of its own, what comprehensions bind, and the slots of the function that they are in
abbrev pub Slots : Type 0
Slots = List (Option Datum) × (List Pairs × List (Option Datum))

-- a frame all of whose slots are empty
abbrev pub no_slots : Slots
no_slots = ([], ([], []))

-- what a slot holds: by the list, or else by the comprehensions, or else by the function
unfoldable pub slots_of : Slots → Frame
slots_of s = λ slot. or_else (list_slots s.0 slot) (layered s.1.0 s.1.1 slot)
