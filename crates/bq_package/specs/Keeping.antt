-- What a host keeps after a call that declares targets.
use Rattle.std.specs.Prelude.{◌≡◌, true, List, Result, Ok, Err}
use Rattle.std.specs.List.{list_all}
use Rattle.bq_base.specs.declared.fault.EvalFault.TheVariants.{DoubleTarget}
use Rattle.bq_label.specs.Label.{LabelParts}
use Rattle.bq_value.specs.Datum.{Datum, none}
use Rattle.bq_value.specs.declared.error.EvalErr.{EvalErr}
use Rattle.bq_value.specs.declared.error.EvalErr.TheVariants.{Bad}
use Rattle.bq_builtin_machine.specs.State.{State}
use Rattle.bq_builtin_machine.specs.Action.{HostDoes}
use Rattle.bq_package_values.specs.Host.{KeepsIfRefused}
use Rattle.bq_package_target.specs.declared.target.Target.{Target}
use Rattle.bq_package_target.specs.declared.state.Declared.{Declared}
use Rattle.bq_package_target.specs.declared.state.Declared.TheVariants.{Accepted, Refused}
use Rattle.bq_package_target.specs.Target.{is_of}
use Rattle.bq_package_target.specs.Package.{PackageTargets, IsOwnCall}
use Rattle.bq_package.specs.Place.{PlaceView}
use Rattle.bq_package.specs.Calls.{HeldPackage, outside, declaring, Declaring, settled}

-- what a call answers that declares targets; one that is refused is F74
abbrev pub answer : Declared → Result Datum EvalErr
answer (Accepted q) = Ok none
answer (Refused q) = Err (Bad DoubleTarget)

-- the package that such a call leaves
abbrev pub package_after : Declared → PackageTargets
package_after (Accepted q) = q
package_after (Refused q) = q

-- that package is kept, and the call answers so
abbrev pub Settles : Result Datum EvalErr → HeldPackage → PlaceView → Declared → Type 0
Settles result after p outcome = (result ≡ answer outcome) × (after ≡ declaring (record { place = p; «package» = package_after outcome }))

-- a call that declares on the package that is kept
pub record IsSettled (result : Result Datum EvalErr) (before after : HeldPackage) (declare : PackageTargets → Declared) : Type 0 where
  pub says : (s : State) (d : Declaring) → before ≡ declaring d → HostDoes (λ v. v) result s after (settled s d (declare d.package))
  pub keeps : KeepsIfRefused result before after

-- the target is of the package that is kept
abbrev pub OwnsTarget : HeldPackage → Target → Type 0
OwnsTarget (outside own packages) t = Unit {0}
OwnsTarget (declaring d) t = IsOwnCall d.place.own t

-- the files are of the package that is kept
abbrev pub OwnsFiles : HeldPackage → List LabelParts → Type 0
OwnsFiles (outside own packages) ls = Unit {0}
OwnsFiles (declaring d) ls = list_all (is_of d.place.own) ls ≡ true
