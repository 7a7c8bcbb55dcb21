-- Parts of definitions, as words that proofs name.
use Rattle.std.specs.Prelude.{Err, List, None, Ok, Option, Result, Some, length, remove, ℕ, ◌+◌, [], false, ◌++◌, ◌∷◌}
use Rattle.bq_base.specs.declared.fault.EvalFault.{EvalFault}
use Rattle.bq_base.specs.declared.fault.EvalFault.TheVariants.{Index, WrongType, BadValue}
use Rattle.bq_builtin_strings.specs.Length.{within}
use Rattle.bq_value.specs.Contents.{Contents, items, pairs}
use Rattle.bq_value.specs.Datum.{Datum, none}
use Rattle.bq_value.specs.Pairs.{put, without}
use Rattle.bq_builtin_methods.specs.Dict.{DictChange, or_no_key}
use Rattle.bq_builtin_methods.specs.List.{ListChange}
use Rattle.bq_builtin_machine.specs.Answer.{and_then}
use Rattle.bq_builtin_methods.specs.PairsGiven.{Pairs, GivenView}

-- `setdefault`, by what the dict has at the key
abbrev pub with_default_by : Option Datum → Datum → Datum → DictChange
with_default_by o k d ps = elim o [ Some v ↦ Ok (v, ps) | None ↦ and_then (within (length ps + 1)) (λ n. Ok (d, put k d ps)) ]

-- `pop`, by what the dict has at the key
abbrev pub taken_out_by : Option Datum → Datum → Option Datum → DictChange
taken_out_by o k d ps = elim o [ Some v ↦ Ok (v, without k ps) | None ↦ or_no_key d ps ]

-- the pairs that a change left, as what a cell holds
abbrev pub as_pairs : Result (Datum × Pairs) EvalFault → Result (Datum × Contents) EvalFault
as_pairs o = elim o [ Ok r ↦ Ok (r.0, pairs r.1) | Err kind ↦ Err kind ]

-- the element at the place leaves the list, if there is one
abbrev pub dropped_by : Option Datum → ℕ → ListChange
dropped_by o at xs = elim o [ Some v ↦ Ok (none, remove xs at) | None ↦ Err Index ]

-- `pop`, by the element at the place
abbrev pub taken_by : Option Datum → ℕ → ListChange
taken_by o at xs = elim o [ Some v ↦ Ok (v, remove xs at) | None ↦ Err Index ]

-- the elements that a change left, as what a cell holds
abbrev pub as_items : Result (Datum × List Datum) EvalFault → Result (Datum × Contents) EvalFault
as_items o = elim o [ Ok r ↦ Ok (r.0, items r.1) | Err kind ↦ Err kind ]

-- the pairs of a cell that holds a dict
abbrev pub pairs_of_content : Option Contents → Option Pairs
pairs_of_content o = elim o [ Some (pairs ps) ↦ Some ps | _ ↦ None ]

-- the values of a list or tuple (F40)
abbrev pub values_of_content : Option Contents → Result (List Datum) EvalFault
values_of_content o = elim o [ Some (items xs) ↦ Ok xs | _ ↦ Err WrongType ]

-- the pairs of what a cell that has to hold a dict holds
abbrev pub dict_of : Contents → Result Pairs EvalFault
dict_of o = elim o [ pairs ps ↦ Ok ps | _ ↦ Err WrongType ]

-- the elements of what a cell that has to hold a list holds
abbrev pub list_of : Contents → Result (List Datum) EvalFault
list_of o = elim o [ items xs ↦ Ok xs | _ ↦ Err WrongType ]

-- the place that was found; it has to be there
abbrev pub place_by : Option ℕ → Result ℕ EvalFault
place_by o = elim o [ Some at ↦ within at | None ↦ Err BadValue ]

-- one more pair was read, or one with another number of elements
abbrev pub with_pair : Option (Datum × Datum) → GivenView → GivenView
with_pair o g = elim o [ Some p ↦ record g { unkeyed = g.unkeyed ++ p ∷ [] } | None ↦ record g { all_have_two = false } ]
