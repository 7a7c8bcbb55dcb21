-- What a method takes of an argument, and F40 where it is of another type. An argument that may be left out is none there.
use Rattle.std.specs.Prelude.{◌≡◌, ℕ, ◌+◌, ◌-◌, ℤ, pos, negsuc, Bool, false, List, length, take, drop, Option, Some, None, Result, Ok, Err}
use Rattle.bq_base.specs.declared.fault.EvalFault.{EvalFault}
use Rattle.bq_base.specs.declared.fault.EvalFault.TheVariants.{Args, WrongType}
use Rattle.bq_value.specs.Datum.{Datum, none, boolean, int, string}
use Rattle.bq_builtin_strings.specs.Trim.{spaces}
use Rattle.bq_builtin_strings.specs.Place.{bound}
use Rattle.bq_builtin_machine.specs.Answer.{and_then}

-- What a call returned that takes no memory is what the definition gives.
abbrev pub Says : {A B : Type 0} → (A → B) → Result A EvalFault → Result B EvalFault → Type 0
Says view (Ok a) definition = definition ≡ Ok (view a)
Says view (Err kind) definition = definition ≡ Err kind

-- a string, which may not be left out
abbrev pub text_in : Option Datum → Result (List ℕ) EvalFault
text_in None = Err Args
text_in (Some (string text)) = Ok text
text_in (Some v) = Err WrongType

-- an integer; left out or `None`, none
abbrev pub place_in : Option Datum → Result (Option ℤ) EvalFault
place_in None = Ok None
place_in (Some none) = Ok None
place_in (Some (int place)) = Ok (Some place)
place_in (Some v) = Err WrongType

-- bytes; left out or `None`, the bytes that count as space
abbrev pub bytes_in : Option Datum → Result (List ℕ) EvalFault
bytes_in None = Ok spaces
bytes_in (Some none) = Ok spaces
bytes_in (Some (string text)) = Ok text
bytes_in (Some v) = Err WrongType

-- a separator; left out or `None`, none
abbrev pub separator_in : Option Datum → Result (Option (List ℕ)) EvalFault
separator_in None = Ok None
separator_in (Some none) = Ok None
separator_in (Some (string text)) = Ok (Some text)
separator_in (Some v) = Err WrongType

-- how often at most in a text of `len` bytes; left out or negative, as often as can be, which is once more than it has
-- bytes
abbrev pub most_in : ℕ → Option Datum → Result ℕ EvalFault
most_in len None = Ok (len + 1)
most_in len (Some (int (pos most))) = Ok most
most_in len (Some (int (negsuc k))) = Ok (len + 1)
most_in len (Some v) = Err WrongType

-- a truth value; left out, false
abbrev pub truth_in : Option Datum → Result Bool EvalFault
truth_in None = Ok false
truth_in (Some (boolean so)) = Ok so
truth_in (Some v) = Err WrongType

-- the bytes from one place to another; none if that comes before it
abbrev pub part_of : List ℕ → ℕ → ℕ → List ℕ
part_of text from to = take (to - from) (drop from text)

-- the region between two places, and where it starts
abbrev pub region : List ℕ → Option Datum → Option Datum → Result (ℕ × List ℕ) EvalFault
region text start end =
    and_then (place_in start) (λ from. and_then (place_in end) (λ to. Ok (bound (length text) 0 from, part_of text (bound (length text) 0 from) (bound (length text) (length text) to))))
