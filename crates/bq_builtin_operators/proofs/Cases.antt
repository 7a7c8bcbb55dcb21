-- Parts of definitions, as words that proofs name.
use Rattle.std.specs.Prelude.{Bool, Err, List, Ok, Option, Result, Some, is_some, None, pos, ℤ}
use Rattle.bq_base.specs.declared.fault.EvalFault.{EvalFault}
use Rattle.bq_base.specs.declared.fault.EvalFault.TheVariants.{NoKey, WrongType}
use Rattle.bq_value.specs.Contents.{Contents, items, pairs}
use Rattle.bq_value.specs.Datum.{Datum}
use Rattle.bq_value.specs.Pairs.{found}
use Rattle.bq_value.specs.Looked.{Looked}
use Rattle.bq_builtin_operators.specs.Subscript.{at_no_cost, or_fault}

-- a key of a dict; a value that makes no key is refused (F45)
abbrev pub among_keys : Looked Datum → List (Datum × Datum) → Looked Bool
among_keys o ps = elim o [ Ok (key, n) ↦ Ok (is_some (found key ps), n) | Err kind ↦ Err kind ]

-- the pairs of a cell that has to hold a dict
abbrev pub dict_of_content : Option Contents → Result (List (Datum × Datum)) EvalFault
dict_of_content o = elim o [ Some (pairs ps) ↦ Ok ps | _ ↦ Err WrongType ]

-- the elements of a cell that has to hold a list
abbrev pub list_of_content : Option Contents → Result (List Datum) EvalFault
list_of_content o = elim o [ Some (items xs) ↦ Ok xs | _ ↦ Err WrongType ]

-- the value of a key; a value that makes no key is F45, a key that is not there F44
abbrev pub value_by : List (Datum × Datum) → Looked Datum → Looked Datum
value_by ps o = elim o [ Ok (key, n) ↦ at_no_cost n (or_fault NoKey (found key ps)) | Err kind ↦ Err kind ]

-- 1 where the step is left out
abbrev pub step_of : Option ℤ → ℤ
step_of o = elim o [ None ↦ pos 1 | Some n ↦ n ]
