-- Calls of rules: of the schema's, by their numbers, and of those that .bzl files declare.
use Rattle.std.specs.Prelude.{ℕ, List, Option, Some, None, Result, Err, slice_get}
use Rattle.bq_base.specs.declared.fault.EvalFault.{EvalFault}
use Rattle.bq_base.specs.declared.fault.EvalFault.TheVariants.{NotInPackage}
use Rattle.bq_value_datum.specs.Class.{Class}
use Rattle.bq_value.specs.Cells.{StoreView}
use Rattle.bq_builtin_machine.specs.Args.{Passed}
use Rattle.bq_package_target.specs.declared.target.Target.{Target}
use Rattle.bq_package_attributes.specs.Declarations.{declaration}
use Rattle.bq_package.specs.Place.{PlaceView}

-- the target that a call of a rule declares, by the rule's kind and its class
unfoldable pub declared_target : PlaceView → StoreView → ℕ → List ℕ → Class → Passed → Result Target EvalFault
declared_target p store line rule class passed = declaration p.own p.packages store class rule line passed

-- a rule that the schema doesn't have, which no program calls, is in no package
abbrev pub target_by : PlaceView → StoreView → ℕ → Option (List ℕ) → Option Class → Passed → Result Target EvalFault
target_by p store line None class passed = Err NotInPackage
target_by p store line (Some rule) None passed = Err NotInPackage
target_by p store line (Some rule) (Some class) passed = declared_target p store line rule class passed

-- the target that a call of the schema's rule of this number declares
unfoldable pub rule_target : PlaceView → StoreView → ℕ → ℕ → Passed → Result Target EvalFault
rule_target p store line rule passed = target_by p store line (slice_get p.rules.names rule) (slice_get p.rules.classes rule) passed
