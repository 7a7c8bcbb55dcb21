-- Words of the laws.
use Rattle.std.specs.Prelude.{◌≡◌, ℕ, ◌↔◌, ◌⊎◌, List, [], ◌∷◌, ◌++◌, bytes_eq}
use Rattle.std.specs.List.{Contains, IsDistinct}
use Rattle.bq_label.specs.Label.{LabelParts}
use Rattle.bq_value_datum.specs.Class.{Class}
use Rattle.bq_package_target.specs.declared.target.Target.{Target}
use Rattle.bq_package_target.specs.declared.target.TargetKind.TheVariants as k
use Rattle.bq_package_target.specs.declared.state.Declared.{Declared}
use Rattle.bq_package_target.specs.declared.state.Declared.TheVariants.{Accepted, Refused}
use Rattle.bq_package_target.specs.Value.{outputs_in}
use Rattle.bq_package_target.specs.Target.{names_of, declares}
use Rattle.bq_package_target.specs.Package.{PackageTargets}
use Rattle.bq_package_target.specs.Calls.{declared, exported}

-- a call of a rule or of `package_group`, by its target, or of `exports_files`, by its files and its line
pub data Call : Type 0 where
  rule_or_group : Target → Call
  exports : List LabelParts → ℕ → Call

-- the package after a call, accepted or refused
abbrev pub result_of : Declared → PackageTargets
result_of (Accepted p) = p
result_of (Refused p) = p

-- the package after a call of it
abbrev pub after : PackageTargets → Call → PackageTargets
after p (rule_or_group t) = result_of (declared p t)
after p (exports ls line) = result_of (exported p ls line)

-- the package after calls, in turn
abbrev pub after_calls : PackageTargets → List Call → PackageTargets
after_calls p [] = p
after_calls p (c ∷ cs) = after_calls (after p c) cs

-- a call exports files, or declares a rule or a group
abbrev pub IsRuleOrGroup : Call → Type 0
IsRuleOrGroup (exports ls line) = Unit {0}
IsRuleOrGroup (rule_or_group t) = ((name : List ℕ) × ((class : Class) × (t.kind ≡ k.Rule name class))) ⊎ (t.kind ≡ k.Group)

-- each of the calls exports files, or declares a rule or a group
abbrev pub AreRulesOrGroups : List Call → Type 0
AreRulesOrGroups [] = Unit {0}
AreRulesOrGroups (c ∷ cs) = IsRuleOrGroup c × AreRulesOrGroups cs

-- one of the targets has this label, and names this file as an output
pub record Makes (ts : List Target) (rule file : LabelParts) : Type 0 where
  pub maker : Target
  pub known : Contains ts maker
  pub label : maker.label ≡ rule
  pub output : Contains (outputs_in maker.attributes) file

-- each generated file is an output of its rule
abbrev pub EachIsMade : List Target → Type 0
EachIsMade ts = (file : Target) (rule : LabelParts) → Contains ts file → file.kind ≡ k.Generated rule → Makes ts rule file.label

-- of a call that is accepted the targets come after those before it, and a call that is refused leaves the package
pub record KeepsOrder (p : PackageTargets) (t : Target) (q : PackageTargets) : Type 0 where
  pub accepted : declared p t ≡ Accepted q → q.targets ≡ p.targets ++ declares t
  pub refused : declared p t ≡ Refused q → q ≡ p

-- a call is accepted exactly where no two names are equal with it
abbrev pub AcceptsDistinct : PackageTargets → Target → Type 0
AcceptsDistinct p t = IsDistinct bytes_eq (names_of p.targets) → ((q : PackageTargets) × (declared p t ≡ Accepted q)) ↔ IsDistinct bytes_eq (names_of (p.targets ++ declares t))
