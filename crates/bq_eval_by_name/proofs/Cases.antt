-- Parts of definitions, as words that proofs name.
use Rattle.std.specs.Prelude.{None, Option, Some}
use Rattle.bq_value.specs.Datum.{Datum, none, or_none}

-- the value of a global; by `globals_are_bound` each has one where a file ends
abbrev pub value_of : Option (Option Datum) → Datum
value_of o = elim o [ None ↦ none | Some v ↦ or_none v ]
