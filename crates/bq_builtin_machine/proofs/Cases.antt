-- Parts of definitions, as words that proofs name.
use Rattle.std.specs.Prelude.{Bool, List, None, Option, Some, false, true, ℕ}
use Rattle.std.specs.Str.{bytes_eq}
use Rattle.bq_value.specs.Datum.{Datum}

-- a parameter has this name
abbrev pub name_is : List ℕ → Option (List ℕ) → Bool
name_is name o = elim o [ None ↦ false | Some other ↦ bytes_eq name other ]

-- the parameter is there and has a value
abbrev pub is_given : Option (Option Datum) → Bool
is_given o = elim o [ Some (Some v) ↦ true | _ ↦ false ]
