-- Parts of definitions, as words that proofs name.
use Rattle.std.specs.Prelude.{Bool, Err, Ok, Result, if◌then◌else◌, not, ◌||◌}
use Rattle.bq_base.specs.declared.fault.EvalFault.{EvalFault}
use Rattle.bq_base.specs.declared.fault.EvalFault.TheVariants.{BadValue}
use Rattle.bq_value_datum.specs.Class.{Class}
use Rattle.bq_package_attributes.specs.Rule.{are_named, class}

-- a class is declared in a .bzl file, and with such names
abbrev pub if_declared : Bool → Class → Result Class EvalFault
if_declared in_build class = if in_build || not (are_named class) then Err BadValue else Ok class
