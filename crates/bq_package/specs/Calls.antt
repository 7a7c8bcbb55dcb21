-- What the calls of build functions and of rules mean (Bazel, Build Encyclopedia, "Functions"). While no BUILD file is evaluated each of
-- them is F70, before any other fault. A rule that a .bzl file declares and a rule of the schema declare targets by one definition.
use Rattle.std.specs.Prelude.{ℕ, List, [], map, Bool, true, false, Option, Some, None, Result, Ok, Err}
use Rattle.bq_base.specs.declared.fault.EvalFault.{EvalFault}
use Rattle.bq_base.specs.declared.fault.EvalFault.TheVariants.{NotInPackage, DoubleTarget}
use Rattle.bq_label.specs.declared.packages.BuildFile.{BuildFile}
use Rattle.bq_label.specs.Label.{PackageParts}
use Rattle.bq_value_datum.specs.Class.{Class}
use Rattle.bq_value_datum.specs.declared.attribute_value.AttributeValue.{AttributeValue}
use Rattle.bq_value.specs.Datum.{Datum, none, string}
use Rattle.bq_builtin_machine.specs.Args.{Passed}
use Rattle.bq_builtin_machine.specs.State.{State, stop_at}
use Rattle.bq_builtin_machine.specs.Action.{Run, Action, done, stopped, ◌>>=◌, given, on_machine}
use Rattle.bq_builtin_machine.specs.Binding.{bind}
use Rattle.bq_builtin_machine.specs.Cells.{new_list}
use Rattle.bq_package_values.specs.Host.{HostCalls}
use Rattle.bq_package_target.specs.declared.state.Declared.{Declared}
use Rattle.bq_package_target.specs.declared.state.Declared.TheVariants.{Accepted, Refused}
use Rattle.bq_package_target.specs.Package.{PackageTargets}
use Rattle.bq_package_target.specs.Calls.{declared, exported}
use Rattle.bq_package_values.specs.declared.scope.PackageScope.{PackageScope}
use Rattle.bq_package_values.specs.declared.written.Written.{Written}
use Rattle.bq_package_values.specs.Steps.{and_then}
use Rattle.bq_package_values.specs.Values.{typed}
use Rattle.bq_package.specs.declared.building.BuildHost.{BuildHost}
use Rattle.bq_package.specs.declared.building.Building.{Building}
use Rattle.bq_predeclared.specs.declared.host_function.HostFunction.{HostFunction}
use Rattle.bq_predeclared.specs.declared.host_function.HostFunction.TheVariants as b
use Rattle.bq_package.specs.Place.{PlaceView, place_of}
use Rattle.bq_package.specs.Glob.{globbed}
use Rattle.bq_package.specs.Files.{files_named}
use Rattle.bq_package.specs.Groups.{group_named}
use Rattle.bq_package.specs.Rules.{declared_target, rule_target}

-- a package whose BUILD file is evaluated: where it is, and what the calls have declared
pub record Declaring : Type 0 where
  pub place : PlaceView
  pub «package» : PackageTargets

-- what is kept: the package of the BUILD file that is evaluated; outside of one, the package of the file that is, and the packages of the
-- workspace
pub data HeldPackage : Type 0 where
  outside : PackageParts → List BuildFile → HeldPackage
  declaring : Declaring → HeldPackage

-- where the package is, and what the calls have declared in it
abbrev pub declaring_of : Building → Declaring
declaring_of b = record { place = place_of b.place; «package» = b.package }

-- what is kept: of a BUILD file its package, else the package of the file and the packages of the workspace
abbrev pub held_of : PackageScope → Option Building → HeldPackage
held_of scope None = outside scope.own.now scope.packages.now
held_of scope (Some b) = declaring (declaring_of b)

-- what a host keeps, as contracts see it
abbrev pub held_by : BuildHost → HeldPackage
held_by h = held_of h.scope h.building

-- what the calls have declared, where a BUILD file is evaluated
abbrev pub package_in : HeldPackage → Option PackageTargets
package_in (outside own packages) = None
package_in (declaring d) = Some d.package

-- where the BUILD file is evaluated, or F70
abbrev pub place_in : HeldPackage → Result PlaceView EvalFault
place_in (outside own packages) = Err NotInPackage
place_in (declaring d) = Ok d.place

-- the package of the file that is evaluated
abbrev pub own_of : HeldPackage → PackageParts
own_of (outside own packages) = own
own_of (declaring d) = d.place.own

-- the packages of the workspace
abbrev pub packages_of : HeldPackage → List BuildFile
packages_of (outside own packages) = packages
packages_of (declaring d) = d.place.packages

-- a new list of strings
unfoldable pub new_strings : List (List ℕ) → Action State Datum
new_strings texts = new_list (map string texts)

-- what a call of `package_name` gives (F52)
unfoldable pub package_name : PlaceView → Passed → Result Datum EvalFault
package_name p passed =
    and_then (bind (record { parameters = []; placed = 0; takes_rest = false; takes_keywords = false }) passed) (λ b. Ok (string p.own.package))

-- what a call gives that takes any arguments and changes nothing (F52 where a keyword is there twice)
unfoldable pub ignored : Passed → Result Datum EvalFault
ignored passed = and_then (bind (record { parameters = []; placed = 0; takes_rest = true; takes_keywords = true }) passed) (λ b. Ok none)

-- a call that declares targets gives `None`; a call that is refused, F74, leaves all as it was
abbrev pub settled : State → Declaring → Declared → Run (State × HeldPackage) Datum
settled s d (Accepted after) = done none (s, declaring (record d { «package» = after }))
settled s d (Refused after) = stopped (stop_at DoubleTarget s)

-- a call that declares what its arguments say, or their fault
abbrev pub declares : {A : Type 0} → State → Declaring → Result A EvalFault → (A → Declared) → Run (State × HeldPackage) Datum
declares s d (Ok a) declare = settled s d (declare a)
declares s d (Err why) declare = stopped (stop_at why s)

-- a call in a BUILD file, by its function
unfoldable pub call_in : Declaring → State → HostFunction → Passed → Run (State × HeldPackage) Datum
call_in d s b.Glob passed = on_machine (given (globbed d.place s.store passed) >>= new_strings) (s, declaring d)
call_in d s b.PackageName passed = on_machine (given (package_name d.place passed)) (s, declaring d)
call_in d s b.Package passed = on_machine (given (ignored passed)) (s, declaring d)
call_in d s b.Licenses passed = on_machine (given (ignored passed)) (s, declaring d)
call_in d s b.ExportsFiles passed = declares s d (files_named d.place s.store passed) (λ ls. exported d.package ls s.line)
call_in d s b.PackageGroup passed = declares s d (group_named d.place s.store s.line passed) (declared d.package)
call_in d s (b.Rule rule) passed = declares s d (rule_target d.place s.store s.line rule passed) (declared d.package)

-- a call of a function of BUILD files: elsewhere there is no package
abbrev pub call_by : State → HeldPackage → HostFunction → Passed → Run (State × HeldPackage) Datum
call_by s (outside own packages) function passed = stopped (stop_at NotInPackage s)
call_by s (declaring d) function passed = call_in d s function passed

-- a call of a build function, or of a rule of the schema
unfoldable pub call_of : HostFunction → Passed → Action (State × HeldPackage) Datum
call_of function passed q = call_by q.0 q.1 function passed

-- a call of a rule that a .bzl file declared, which a BUILD file alone can make
abbrev pub rule_by : State → HeldPackage → List ℕ → Class → Passed → Run (State × HeldPackage) Datum
rule_by s (outside own packages) rule class passed = stopped (stop_at NotInPackage s)
rule_by s (declaring d) rule class passed = declares s d (declared_target d.place s.store s.line rule class passed) (declared d.package)

-- a call of a rule that a .bzl file declares, by its kind and its class
unfoldable pub rule_call : List ℕ → Class → Passed → Action (State × HeldPackage) Datum
rule_call rule class passed q = rule_by q.0 q.1 rule class passed

-- a BUILD file is evaluated
abbrev pub is_building : HeldPackage → Bool
is_building (outside own packages) = false
is_building (declaring d) = true

-- the value of a default, with its labels read in the package of the file that is evaluated: F78, and F37 where one crosses into another
-- package
unfoldable pub default_value : HeldPackage → Written → Result AttributeValue EvalFault
default_value held written = typed (own_of held) (packages_of held) written

-- what the host makes of calls
abbrev pub meaning : HostCalls HeldPackage
meaning = record { call = call_of; in_build = is_building; read_default = default_value; call_rule = rule_call }
