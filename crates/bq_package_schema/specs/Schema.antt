-- The rules that the lines of a schema have declared so far, and what a further line makes of them (ours).
use Rattle.std.specs.Prelude.{ℕ, List, [], ◌∷◌, ◌++◌, Option, Some, None, if◌then◌else◌}
use Rattle.bq_base_texts.specs.NameSet.{has}
use Rattle.bq_value_datum.specs.Class.{Class, extended}
use Rattle.bq_value_datum.specs.declared.attribute.Attribute.{Attribute}
use Rattle.bq_package_schema.specs.declared.line.Line.{Line}
use Rattle.bq_package_schema.specs.declared.line.Line.TheVariants as line

-- The names of the rules in the order in which they are declared, and the attributes of each in the same order.
pub record Rules : Type 0 where
  pub names : List (List ℕ)
  pub classes : List Class

-- a schema without a line
abbrev pub no_rules : Rules
no_rules = record { names = []; classes = [] }

-- one more rule, without attributes of its own; `None` if one has the name
unfoldable pub with_rule : Rules → List ℕ → Option Rules
with_rule rules name = if has rules.names name then None else Some (record { names = rules.names ++ name ∷ []; classes = rules.classes ++ [] ∷ [] })

-- the last of a list, after those before it
unfoldable pub last_of : {A : Type 0} → List A → Option (List A × A)
last_of [] = None
last_of (x ∷ xs) = Some (elim (last_of xs) [ None ↦ ([], x) | Some p ↦ (x ∷ p.0, p.1) ])

-- the rules with their last class as it is now
abbrev pub with_last : Rules → List Class → Option Class → Option Rules
with_last rules before None = None
with_last rules before (Some class) = Some (record { names = rules.names; classes = before ++ class ∷ [] })

-- one more attribute of the last rule; `None` if there is no rule, or it has one of the name
unfoldable pub with_attribute_of_last : Rules → List ℕ → Attribute → Option Rules
with_attribute_of_last rules name attribute = elim (last_of rules.classes) [ None ↦ None | Some p ↦ with_last rules p.0 (extended p.1 name attribute) ]

-- the rules after a further line; `None` if it is a bad one
unfoldable pub after : Rules → Line → Option Rules
after rules line.Skipped = Some rules
after rules (line.Rule name) = with_rule rules name
after rules (line.Attribute name attribute) = with_attribute_of_last rules name attribute
after rules line.Other = None
