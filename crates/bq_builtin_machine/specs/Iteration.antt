-- Walks over iterables (Starlark, "Iteration protocol"): a list, a tuple, a dict by its keys, a range.
use Rattle.std.specs.Prelude.{◌≡◌, ℕ, zero, suc, ℤ, ◌+ℤ◌, List, [], ◌∷◌, ◌++◌, map, Option, Some, None, Result, Ok, Err}
use Rattle.bq_base.specs.declared.fault.EvalFault.{EvalFault}
use Rattle.bq_base.specs.declared.fault.EvalFault.TheVariants.{WrongType}
use Rattle.bq_value.specs.Datum.{Datum, int, tuple, range, cell, list_of}
use Rattle.bq_value.specs.Range.{range_count}
use Rattle.bq_value.specs.Contents.{Contents, items, pairs}
use Rattle.bq_value.specs.Pairs.{keys}
use Rattle.bq_value.specs.Cells.{StoreView, content_at}
use Rattle.bq_builtin_machine.specs.State.{State}
use Rattle.bq_builtin_machine.specs.Action.{Action, ◌>>=◌, ◌>>◌, pure, stop, look, change}
use Rattle.bq_builtin_machine.specs.Calls.{without_newest}

-- a number of integers from the first one on, by this step
abbrev pub integers : ℤ → ℤ → ℕ → List ℤ
integers first step zero = []
integers first step (suc n) = first ∷ integers (first +ℤ step) step n

-- the integers of a range
abbrev pub range_integers : ℤ → ℤ → ℤ → List ℤ
range_integers start stop step = integers start step (range_count start stop step)

-- what a walk over a cell goes through: the elements of a list, the keys of a dict
abbrev pub content_elements : Option Contents → Result (List Datum) EvalFault
content_elements (Some (items xs)) = Ok xs
content_elements (Some (pairs ps)) = Ok (keys ps)
content_elements _ = Err WrongType

-- the elements of an iterable; other values have none (F40)
abbrev pub elements_in : StoreView → Datum → Result (List Datum) EvalFault
elements_in s (tuple xs) = Ok (list_of xs)
elements_in s (range start stop step) = Ok (map int (range_integers start stop step))
elements_in s (cell home number) = content_elements (content_at s home number)
elements_in s _ = Err WrongType

-- what a walk over a value goes through
unfoldable pub elements : Datum → Action State (List Datum)
elements v = look (λ s. elements_in s.store v)

-- a list or dict is marked while it is walked
abbrev pub marked : Datum → State → State
marked (cell home number) s = record s { walks = s.walks ++ record { «module» = home; number = number } ∷ [] }
marked _ s = s

-- a walk begins: over the elements that are there now
unfoldable pub begin_walk : Datum → Action State (List Datum)
begin_walk v = elements v >>= λ xs. change (marked v) >> pure xs

-- the walk that began last ends, which was over this value
unfoldable pub end_walk : Datum → State → State
end_walk (cell home number) s = record s { walks = without_newest s.walks }
end_walk _ s = s

-- what is left after the next element was asked for
abbrev pub IsNext : {A : Type 0} → Option A → List A → List A → Type 0
IsNext None old new = (old ≡ []) × (new ≡ [])
IsNext (Some x) old new = old ≡ x ∷ new
