-- Defaults beside the values of calls: what `attr.NAME(default = v)` keeps is what the call of a rule keeps of `v`.
use Rattle.std.specs.Prelude.{◌≡◌, ◌↔◌, Result, Ok}
use Rattle.bq_base.specs.declared.fault.EvalFault.{EvalFault}
use Rattle.bq_base.specs.declared.fault.EvalFault.TheVariants.{WrongType}
use Rattle.bq_predeclared.specs.declared.attribute_type.AttributeType.{AttributeType}
use Rattle.bq_value_datum.specs.declared.attribute_value.AttributeValue.{AttributeValue}
use Rattle.bq_value.specs.Datum.{Datum}
use Rattle.bq_value.specs.Cells.{StoreView}
use Rattle.bq_package_values.specs.Steps.{and_then}
use Rattle.bq_package_values.specs.Types.{written_as}
use Rattle.bq_package_values.specs.Values.{value_as}
use Rattle.bq_package.specs.Calls.{HeldPackage, own_of, packages_of, meaning}

-- a value as the default of an attribute of a type, read by the host
abbrev pub default_as : HeldPackage → StoreView → AttributeType → Datum → Result AttributeValue EvalFault
default_as held store type v = and_then (written_as WrongType store type v) (meaning.read_default held)

-- a default is kept as the call of a rule in a file of that package keeps such a value, and one is refused where the other is
abbrev pub DefaultsAreTakenAsValues : Type 0
DefaultsAreTakenAsValues =
    (held : HeldPackage) (store : StoreView) (type : AttributeType) (v : Datum) (w : AttributeValue)
    → (default_as held store type v ≡ Ok w) ↔ (value_as (own_of held) (packages_of held) store type v ≡ Ok w)
