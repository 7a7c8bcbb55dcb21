-- `rule(..)` (Bazel, "rule"): F52; F40 where `implementation` is no function made by `def`, `attrs` no dict from strings to attributes,
-- or `doc` neither a string nor `None`; F57 where an attribute may not have its name, and while a BUILD file is evaluated.
use Rattle.std.specs.Prelude.{ℕ, Bool, not, ◌&&◌, ◌||◌, List, [], Option, Some, None, is_some, Result, Ok, Err, if◌then◌else◌}
use Rattle.std.specs.List.{list_all}
use Rattle.bq_base.specs.declared.fault.EvalFault.{EvalFault}
use Rattle.bq_base.specs.declared.fault.EvalFault.TheVariants.{WrongType, BadValue}
use Rattle.bq_parse_grammar.specs.Literals.{is_identifier}
use Rattle.bq_value_datum.specs.CommonAttributes.{common_attribute}
use Rattle.bq_value_datum.specs.Class.{Class}
use Rattle.bq_value_datum.specs.declared.attribute.Attribute.{Attribute}
use Rattle.bq_value.specs.Datum as datum
use Rattle.bq_value.specs.Datum.{Datum}
use Rattle.bq_value.specs.Contents.{Contents, pairs}
use Rattle.bq_value.specs.Cells.{StoreView, content_at}
use Rattle.bq_builtin_machine.specs.Args.{Passed}
use Rattle.bq_builtin_machine.specs.Binding.{bind}
use Rattle.bq_package_values.specs.Parameters.{argument}
use Rattle.bq_package_values.specs.Steps.{and_then, in_turn}
use Rattle.bq_package_values.specs.Texts.{text_in}
use Rattle.bq_package_attributes.specs.Keywords.{rule_parameters, documented}

-- a function that a `def` made; it is never called
abbrev pub implemented : Option Datum → Result (Unit {0}) EvalFault
implemented (Some (datum.function home place name defaults)) = Ok tt
implemented _ = Err WrongType

-- ---- `attrs`

-- the attribute that a value has to be
abbrev pub attribute_in : Datum → Result Attribute EvalFault
attribute_in (datum.attribute x) = Ok x
attribute_in _ = Err WrongType

-- an attribute by its name
abbrev pub entry : Datum × Datum → Result (List ℕ × Attribute) EvalFault
entry p = and_then (text_in WrongType p.0) (λ name. and_then (attribute_in p.1) (λ x. Ok (name, x)))

-- the attributes that a dict holds, in its order
unfoldable pub entries : List (Datum × Datum) → Result Class EvalFault
entries ps = in_turn entry [] ps

-- the attributes of a dict, by name
abbrev pub entries_in : Option Contents → Result Class EvalFault
entries_in (Some (pairs ps)) = entries ps
entries_in _ = Err WrongType

-- the attributes of a rule; it has none if `attrs` is left out
abbrev pub attributes_in : StoreView → Option Datum → Result Class EvalFault
attributes_in store None = Ok []
attributes_in store (Some (datum.cell home number)) = entries_in (content_at store home number)
attributes_in store (Some v) = Err WrongType

-- ---- names

-- an identifier that is no attribute which all rules have
unfoldable pub may_be_named : List ℕ → Bool
may_be_named name = is_identifier name && not (is_some (common_attribute name))

-- each attribute has a name that one can have
unfoldable pub are_named : Class → Bool
are_named class = list_all (λ e. may_be_named e.0) class

-- ---- the rule

-- the attributes of the rule that a call declares, of the arguments of its parameters
unfoldable pub class_of : Bool → StoreView → List (Option Datum) → Result Class EvalFault
class_of in_build store vs =
    and_then (implemented (argument vs 0)) (λ _.
    and_then (attributes_in store (argument vs 1)) (λ class.
    and_then (documented (argument vs 2)) (λ _. if in_build || not (are_named class) then Err BadValue else Ok class)))

-- the class that a call of `rule` declares
unfoldable pub class : Bool → StoreView → Passed → Result Class EvalFault
class in_build store passed = and_then (bind rule_parameters passed) (λ b. class_of in_build store b.values)
