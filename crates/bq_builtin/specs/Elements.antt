-- The elements of arguments, which are read as they are now.
use Rattle.std.specs.Prelude.{ℕ, nat_le, cond, List, [], length, Option, Some, None, Result, Ok, Err}
use Rattle.bq_base.specs.declared.fault.EvalFault.{EvalFault}
use Rattle.bq_base.specs.declared.fault.EvalFault.TheVariants.{TooLong}
use Rattle.bq_builtin_strings.specs.Length.{max_len}
use Rattle.bq_value.specs.Datum.{Datum}
use Rattle.bq_value.specs.Cells.{StoreView}
use Rattle.bq_builtin_machine.specs.Iteration.{elements_in}
use Rattle.bq_builtin_machine.specs.Answer.{and_then}

-- whether a list or tuple may have `n` elements (F54)
unfoldable pub room_for : ℕ → Result (Unit {0}) EvalFault
room_for n = cond (nat_le n max_len) (Ok tt) (Err TooLong)

-- the elements of an iterable, where a list may have as many
unfoldable pub listed : StoreView → Datum → Result (List Datum) EvalFault
listed s v = and_then (elements_in s v) (λ xs. and_then (room_for (length xs)) (λ _. Ok xs))

-- of an iterable that may be left out
unfoldable pub listed_if_any : StoreView → Option Datum → Result (List Datum) EvalFault
listed_if_any s None = Ok []
listed_if_any s (Some v) = listed s v
