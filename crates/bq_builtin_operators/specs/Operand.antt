-- Operands by their types (Starlark, "Data types"); one of another type is F40.
use Rattle.std.specs.Prelude.{ℤ, List, Some, Result, Ok, Err}
use Rattle.bq_base.specs.declared.fault.EvalFault.{EvalFault}
use Rattle.bq_base.specs.declared.fault.EvalFault.TheVariants.{WrongType}
use Rattle.bq_value.specs.Datum.{Datum, int, tuple, cell, data_of}
use Rattle.bq_value.specs.Contents.{items, pairs}
use Rattle.bq_value.specs.Cells.{StoreView, content_at}
use Rattle.bq_builtin_machine.specs.Answer.{and_then}

-- elements as a tuple
abbrev pub as_tuple : Result (List Datum) EvalFault → Result Datum EvalFault
as_tuple r = and_then r (λ xs. Ok (tuple (data_of xs)))

-- the integer that an operand has to be
abbrev pub int_of : Datum → Result ℤ EvalFault
int_of (int n) = Ok n
int_of _ = Err WrongType

-- the values of a list
abbrev pub list_in : StoreView → Datum → Result (List Datum) EvalFault
list_in s (cell home number) = elim (content_at s home number) [ Some (items xs) ↦ Ok xs | _ ↦ Err WrongType ]
list_in s _ = Err WrongType

-- the pairs of a dict
abbrev pub dict_in : StoreView → Datum → Result (List (Datum × Datum)) EvalFault
dict_in s (cell home number) = elim (content_at s home number) [ Some (pairs ps) ↦ Ok ps | _ ↦ Err WrongType ]
dict_in s _ = Err WrongType
