-- `attr.NAME(..)` (Bazel, "attr"): F52; F40 where the default isn't of the type, or `doc` is neither a string nor `None`; F78 and F37
-- of the default's labels.
use Rattle.std.specs.Prelude.{Bool, false, List, Option, Some, None, Result, Ok, if◌then◌else◌}
use Rattle.bq_base.specs.declared.fault.EvalFault.{EvalFault}
use Rattle.bq_base.specs.declared.fault.EvalFault.TheVariants.{WrongType}
use Rattle.bq_value_datum.specs.declared.attribute.Attribute.{Attribute}
use Rattle.bq_predeclared.specs.declared.attribute_type.AttributeType.{AttributeType}
use Rattle.bq_value_datum.specs.declared.attribute_value.AttributeValue.{AttributeValue}
use Rattle.bq_value.specs.Datum.{Datum, none}
use Rattle.bq_value.specs.Cells.{StoreView}
use Rattle.bq_value.specs.Truth.{truth_of}
use Rattle.bq_builtin_machine.specs.Args.{Passed}
use Rattle.bq_builtin_machine.specs.Binding.{bind}
use Rattle.bq_package_values.specs.declared.written.Written.{Written}
use Rattle.bq_package_values.specs.Steps.{and_then}
use Rattle.bq_package_values.specs.Parameters.{argument}
use Rattle.bq_value_datum.specs.AttributeValue.{is_blank}
use Rattle.bq_package_values.specs.Types.{written_as}
use Rattle.bq_package_values.specs.Host.{ReadDefault}
use Rattle.bq_package_attributes.specs.Keywords.{attribute_parameters, documented}

-- the default as it is written, where one is given that isn't `None`
abbrev pub written_default : StoreView → AttributeType → Option Datum → Result (Option Written) EvalFault
written_default store type None = Ok None
written_default store type (Some none) = Ok None
written_default store type (Some v) = and_then (written_as WrongType store type v) (λ x. Ok (Some x))

-- the default that is kept: none that is the type's own
abbrev pub kept : AttributeValue → Option AttributeValue
kept v = if is_blank v then None else Some v

-- the default of an attribute, if one was given
abbrev pub resolved_default : ReadDefault → Option Written → Result (Option AttributeValue) EvalFault
resolved_default read None = Ok None
resolved_default read (Some x) = and_then (read x) (λ v. Ok (kept v))

-- by the truth of the argument
abbrev pub is_mandatory : StoreView → Option Datum → Bool
is_mandatory store None = false
is_mandatory store (Some v) = truth_of store v

-- an attribute of a type, of the arguments of its parameters
unfoldable pub attribute_of : ReadDefault → StoreView → AttributeType → List (Option Datum) → Result Attribute EvalFault
attribute_of read store type vs =
    and_then (written_default store type (argument vs 0)) (λ x.
    and_then (documented (argument vs 2)) (λ _.
    and_then (resolved_default read x) (λ default. Ok (record { kind = type; is_mandatory = is_mandatory store (argument vs 1); default = default }))))

-- the attribute that a call declares
unfoldable pub attribute : ReadDefault → StoreView → AttributeType → Passed → Result Attribute EvalFault
attribute read store type passed = and_then (bind attribute_parameters passed) (λ b. attribute_of read store type b.values)
