-- Strings, and lists of strings. A value of another type is refused for the fault that the reader names: F40 or F73.
use Rattle.std.specs.Prelude.{ℕ, List, [], Option, Some, Result, Ok, Err}
use Rattle.bq_base.specs.declared.fault.EvalFault.{EvalFault}
use Rattle.bq_value.specs.Datum.{Datum, string, tuple, cell, list_of}
use Rattle.bq_value.specs.Contents.{Contents, items}
use Rattle.bq_value.specs.Cells.{StoreView, content_at}
use Rattle.bq_package_values.specs.Steps.{and_then, in_turn}

-- a string
unfoldable pub text_in : EvalFault → Datum → Result (List ℕ) EvalFault
text_in why (string text) = Ok text
text_in why _ = Err why

-- the elements of a list or a tuple
abbrev pub elements_in : EvalFault → StoreView → Datum → Result (List Datum) EvalFault
elements_in why store (tuple vs) = Ok (list_of vs)
elements_in why store (cell home number) = elim (content_at store home number) [ Some (items vs) ↦ Ok vs | _ ↦ Err why ]
elements_in why store _ = Err why

-- the strings that all of the values are
unfoldable pub all_texts : EvalFault → List Datum → Result (List (List ℕ)) EvalFault
all_texts why vs = in_turn (text_in why) [] vs

-- a list or a tuple of strings
unfoldable pub texts_in : EvalFault → StoreView → Datum → Result (List (List ℕ)) EvalFault
texts_in why store v = and_then (elements_in why store v) (all_texts why)
