-- Parts of definitions, as words that proofs name.
use Rattle.std.specs.Prelude.{List, None, Option, Some, [], ℕ, ◌∷◌}
use Rattle.bq_value_datum.specs.Class.{Class, extended}
use Rattle.bq_value_datum.specs.declared.attribute.Attribute.{Attribute}
use Rattle.bq_package_schema.specs.Schema.{Rules, with_last}

-- a list as all but its last element, and that
abbrev pub last_by : {A : Type 0} → A → Option (List A × A) → List A × A
last_by x o = elim o [ None ↦ ([], x) | Some p ↦ (x ∷ p.0, p.1) ]

-- the last rule takes an attribute; there has to be one
abbrev pub onto : Rules → List ℕ → Attribute → Option (List Class × Class) → Option Rules
onto rules name attribute o = elim o [ None ↦ None | Some p ↦ with_last rules p.0 (extended p.1 name attribute) ]
