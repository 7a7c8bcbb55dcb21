-- Words of the laws.
use Rattle.std.specs.Prelude.{◌≡◌, ◌↔◌, ℕ, List, ◌++◌, true, Some, Ok, slice_get}
use Rattle.std.specs.List.{AllZip}
use Rattle.bq_base.specs.declared.fault.EvalFault.TheVariants.{NotInPackage}
use Rattle.bq_label.specs.declared.packages.BuildFile.{BuildFile}
use Rattle.bq_label.specs.Label.{PackageParts, LabelParts, ReadsAs}
use Rattle.bq_predeclared.specs.declared.host_function.HostFunction.{HostFunction}
use Rattle.bq_predeclared.specs.declared.host_function.HostFunction.TheVariants as h
use Rattle.bq_value_datum.specs.Class.{Class}
use Rattle.bq_value_datum.specs.declared.attribute_value.AttributeValue.TheVariants as a
use Rattle.bq_value.specs.Datum.{Datum}
use Rattle.bq_builtin_machine.specs.Args.{Passed}
use Rattle.bq_builtin_machine.specs.State.{State, stop_at}
use Rattle.bq_builtin_machine.specs.Action.{done, stopped}
use Rattle.bq_package_target.specs.declared.target.Target.{Target}
use Rattle.bq_package_values.specs.declared.written.Written.TheVariants as w
use Rattle.bq_package.specs.Calls.{HeldPackage, outside, declaring, Declaring, own_of, meaning}

-- while no BUILD file is evaluated every call is F70, also of a rule that a .bzl file declares
pub record CallsOutsideAreRefused : Type 0 where
  pub calls : (function : HostFunction) (passed : Passed) (s : State) (own : PackageParts) (packages : List BuildFile) → meaning.call function passed (s, outside own packages) ≡ stopped (stop_at NotInPackage s)
  pub rules : (rule : List ℕ) (class : Class) (passed : Passed) (s : State) (own : PackageParts) (packages : List BuildFile) → meaning.call_rule rule class passed (s, outside own packages) ≡ stopped (stop_at NotInPackage s)

-- the package goes on: in its place, with the targets that it had, and then others
pub record GoesOn (d : Declaring) (after : HeldPackage) : Type 0 where
  pub next : Declaring
  pub more : List Target
  pub kept : after ≡ declaring next
  pub place : next.place ≡ d.place
  pub targets : next.package.targets ≡ d.package.targets ++ more

-- what is declared stays, in its order, whatever is called then
pub record WhatIsDeclaredStays : Type 0 where
  pub calls : (function : HostFunction) (passed : Passed) (s t : State) (d : Declaring) (v : Datum) (after : HeldPackage) → meaning.call function passed (s, declaring d) ≡ done v (t, after) → GoesOn d after
  pub rules : (rule : List ℕ) (class : Class) (passed : Passed) (s t : State) (d : Declaring) (v : Datum) (after : HeldPackage) → meaning.call_rule rule class passed (s, declaring d) ≡ done v (t, after) → GoesOn d after

-- A call of a rule that a .bzl file declares does what a call of the schema's rule does that has the kind as its name, and the same
-- attributes.
abbrev pub RulesDeclareAlike : Type 0
RulesDeclareAlike =
    (d : Declaring) (number : ℕ) (rule : List ℕ) (class : Class) (passed : Passed) (s : State) → slice_get d.place.rules.names number ≡ Some rule → slice_get d.place.rules.classes number ≡ Some class
    → meaning.call (h.Rule number) passed (s, declaring d) ≡ meaning.call_rule rule class passed (s, declaring d)

-- a BUILD file is evaluated
abbrev pub IsInBuild : HeldPackage → Type 0
IsInBuild held = (d : Declaring) × (held ≡ declaring d)

-- the host says that a BUILD file is evaluated exactly where one is
abbrev pub InBuildIsSaid : Type 0
InBuildIsSaid = (held : HeldPackage) → (meaning.in_build held ≡ true) ↔ IsInBuild held

-- the labels of a default are read as labels that a BUILD file of the package may write, whatever file is evaluated
pub record DefaultsAreReadInThePackage : Type 0 where
  pub label : (held : HeldPackage) (text : List ℕ) (l : LabelParts) → meaning.read_default held (w.Label text) ≡ Ok (a.Label l) → ReadsAs (own_of held) text l
  pub labels : (held : HeldPackage) (texts : List (List ℕ)) (ls : List LabelParts) → meaning.read_default held (w.LabelList texts) ≡ Ok (a.LabelList ls) → AllZip (ReadsAs (own_of held)) texts ls
