-- A call of a rule, in its place, and what it is said to give.
use Rattle.std.specs.Prelude.{◌≡◌, ℕ, true, false, List, Result, codes, bytes_eq}
use Rattle.bq_base.specs.declared.fault.EvalFault.{EvalFault}
use Rattle.bq_label.specs.declared.packages.BuildFile.{BuildFile}
use Rattle.bq_label.specs.Label.{PackageParts}
use Rattle.bq_value_datum.specs.Class.{Class}
use Rattle.bq_package_target.specs.declared.target.Target.{Target}
use Rattle.bq_value.specs.Cells.{StoreView}
use Rattle.bq_value.specs.Datum.{Datum}
use Rattle.bq_builtin_machine.specs.Args.{Passed}
use Rattle.bq_package_attributes.specs.declared.arguments.Given.{Given}
use Rattle.bq_package_attributes.specs.Arguments.{keyword, with_argument}
use Rattle.bq_package_attributes.specs.Declarations.{declaration}

-- the package whose BUILD file has the call, all packages, the lists and dicts of the values, and the attributes of the rule
pub record CallPlace : Type 0 where
  pub own : PackageParts
  pub packages : List BuildFile
  pub store : StoreView
  pub class : Class

-- what is given once this argument is read too
abbrev pub argument_read : CallPlace → Given → Datum × Datum → Result Given EvalFault
argument_read x g argument = with_argument x.own x.packages x.store x.class g argument

-- the target that a call of the rule of this name declares
abbrev pub target_declared : CallPlace → List ℕ → ℕ → Passed → Result Target EvalFault
target_declared x rule line passed = declaration x.own x.packages x.store x.class rule line passed

-- the argument is the name of the target
abbrev pub GivesName : Datum × Datum → Type 0
GivesName argument = bytes_eq (keyword argument.0) (codes "name") ≡ true

-- it is any other
abbrev pub GivesAttribute : Datum × Datum → Type 0
GivesAttribute argument = bytes_eq (keyword argument.0) (codes "name") ≡ false
