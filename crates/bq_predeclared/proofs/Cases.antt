-- Parts of definitions, as words that proofs name.
use Rattle.std.specs.Prelude.{ℕ, List, Bool, false, Option, Some, None, bytes_eq, if◌then◌else◌}
use Rattle.bq_predeclared.specs.AttributeType.{has_function}
use Rattle.bq_predeclared.specs.declared.attribute_type.AttributeType.{AttributeType}
use Rattle.bq_predeclared.specs.declared.predeclared.Predeclared.{Predeclared}
use Rattle.bq_predeclared.specs.declared.predeclared.Predeclared.TheVariants as p
use Rattle.bq_predeclared.specs.declared.rule_function.RuleFunction.{RuleFunction}
use Rattle.bq_predeclared.specs.declared.rule_function.RuleFunction.TheVariants as f
use Rattle.bq_predeclared.specs.Predeclared.{first_named, others}

-- a value has this name
abbrev pub has_name : List ℕ → Option (List ℕ) → Bool
has_name name o = elim o [ None ↦ false | Some own ↦ bytes_eq name own ]

-- what a name stands for, where this is the place of the built-in function of that name
abbrev pub named_by : List ℕ → Option ℕ → Option Predeclared
named_by name o = elim o [ Some place ↦ Some (p.BuiltIn place) | None ↦ first_named name others ]

-- the function that makes attributes of this type, if there is one
abbrev pub attr_by : Option AttributeType → Option RuleFunction
attr_by o = elim o [ None ↦ None | Some kind ↦ if has_function kind then Some (f.Attr kind) else None ]
