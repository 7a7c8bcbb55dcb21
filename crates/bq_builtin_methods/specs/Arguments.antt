-- Arguments by place, of methods and of functions: another number of them is F52, and a value of the wrong type F40.
use Rattle.std.specs.Prelude.{ℤ, negsuc, List, [], ◌∷◌, Option, Some, None, Result, Ok, Err}
use Rattle.bq_base.specs.declared.fault.EvalFault.{EvalFault}
use Rattle.bq_base.specs.declared.fault.EvalFault.TheVariants.{WrongType, Args}
use Rattle.bq_value.specs.Datum.{Datum, none, int}

-- a method that takes no argument got none
unfoldable pub no_argument : List Datum → Result (Unit {0}) EvalFault
no_argument [] = Ok tt
no_argument _ = Err Args

-- the argument of a call that takes one
unfoldable pub one_argument : List Datum → Result Datum EvalFault
one_argument (v ∷ []) = Ok v
one_argument _ = Err Args

-- the arguments of a method that takes two
unfoldable pub two_arguments : List Datum → Result (Datum × Datum) EvalFault
two_arguments (v ∷ w ∷ []) = Ok (v, w)
two_arguments _ = Err Args

-- the argument of a call that takes one or none
unfoldable pub optional_argument : List Datum → Result (Option Datum) EvalFault
optional_argument [] = Ok None
optional_argument (v ∷ []) = Ok (Some v)
optional_argument _ = Err Args

-- the second may be left out
unfoldable pub one_or_two : List Datum → Result (Datum × Option Datum) EvalFault
one_or_two (v ∷ []) = Ok (v, None)
one_or_two (v ∷ w ∷ []) = Ok (v, Some w)
one_or_two _ = Err Args

-- the integer that an argument has to be
unfoldable pub integer : Datum → Result ℤ EvalFault
integer (int i) = Ok i
integer _ = Err WrongType

-- an index; where it is left out, that of the last element
unfoldable pub index_or_last : Option Datum → Result ℤ EvalFault
index_or_last None = Ok (negsuc 0)
index_or_last (Some v) = integer v

-- the second and the third may be left out
unfoldable pub one_to_three : List Datum → Result (Datum × (Option Datum × Option Datum)) EvalFault
one_to_three (v ∷ []) = Ok (v, (None, None))
one_to_three (v ∷ w ∷ []) = Ok (v, (Some w, None))
one_to_three (v ∷ w ∷ x ∷ []) = Ok (v, (Some w, Some x))
one_to_three _ = Err Args

-- an integer, or `None` if it is left out or `None`
unfoldable pub optional_integer : Option Datum → Result (Option ℤ) EvalFault
optional_integer None = Ok None
optional_integer (Some none) = Ok None
optional_integer (Some (int i)) = Ok (Some i)
optional_integer (Some _) = Err WrongType
