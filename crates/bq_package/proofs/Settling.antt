-- What is kept after a call that declares.
use Rattle.std.proofs.Common.{◌≡◌, ◌∙◌, ℕ, Bool, true, false, cond, List, ◌++◌, Result, Ok, Err, refl, sym, ap, subst}
use Rattle.std.specs.List.{list_any}
use Rattle.bq_base.specs.declared.fault.EvalFault.{EvalFault}
use Rattle.bq_base.specs.declared.fault.EvalFault.TheVariants as f
use Rattle.bq_label.specs.declared.packages.BuildFile.{BuildFile}
use Rattle.bq_label.specs.Label.{PackageParts, LabelParts}
use Rattle.bq_value.specs.Datum.{Datum, none}
use Rattle.bq_value.specs.declared.error.EvalErr.{EvalErr}
use Rattle.bq_value.specs.declared.error.EvalErr.TheVariants.{Bad, Memory}
use Rattle.bq_builtin_machine.specs.State.{State, stop_at}
use Rattle.bq_builtin_machine.specs.Action.{done, stopped, HostDoes}
use Rattle.bq_package_values.specs.Host.{KeepsIfRefused}
use Rattle.bq_package_target.specs.declared.target.Target.{Target}
use Rattle.bq_package_target.specs.declared.state.Declared.{Declared}
use Rattle.bq_package_target.specs.declared.state.Declared.TheVariants.{Accepted, Refused}
use Rattle.bq_package_target.specs.Target.{names_of, declares as declares_targets}
use Rattle.bq_package_target.specs.Names.{are_new}
use Rattle.bq_package_target.specs.Package.{PackageTargets, is_taken, files}
use Rattle.bq_package_target.specs.Calls.{declared, exported}
use Rattle.bq_package.specs.Place.{PlaceView}
use Rattle.bq_package.specs.Calls.{HeldPackage, outside, declaring, Declaring, settled}
use Rattle.bq_package.specs.Keeping.{Settles, IsSettled}

abbrev Answer : Type 0
Answer = Result Datum EvalErr

-- a refused call leaves the package as it was
abbrev LeavesIfRefused : (PackageTargets → Declared) → Type 0
LeavesIfRefused declare = (p q : PackageTargets) → declare p ≡ Refused q → q ≡ p

refused_new : (p q r : PackageTargets) (new : Bool) → cond new (Accepted q) (Refused p) ≡ Refused r → r ≡ p
refused_new p q r true h = absurd (cc)
refused_new p q r false h = cc

refused_taken : (p q r : PackageTargets) (taken : Bool) → cond taken (Refused p) (Accepted q) ≡ Refused r → r ≡ p
refused_taken p q r true h = cc
refused_taken p q r false h = absurd (cc)

declared_leaves : (t : Target) → LeavesIfRefused (λ p. declared p t)
unfolding declared
declared_leaves t p r h = refused_new p (record p { targets = p.targets ++ declares_targets t }) r (are_new (names_of p.targets) (names_of (declares_targets t))) h

exported_leaves : (ls : List LabelParts) (line : ℕ) → LeavesIfRefused (λ p. exported p ls line)
unfolding exported
exported_leaves ls line p r h = refused_taken p (record p { targets = p.targets ++ files line p.targets ls }) r (list_any (is_taken p.targets) ls) h

settled_as : (s : State) (d : Declaring) (p : PlaceView) (q : PackageTargets) (outcome : Declared) (result : Answer) (after : HeldPackage) → declaring (record { place = p; «package» = q }) ≡ declaring d
    → Settles result after p outcome → HostDoes (λ v. v) result s after (settled s d outcome)
settled_as s d p q (Accepted r) result after e (is, kept) =
    let at : record { place = p; «package» = q } ≡ d = cc in
    rw (is, kept) (subst (λ (x : Declaring). settled s x (Accepted r) ≡ done none (s, declaring (record { place = p; «package» = r }))) at refl)
settled_as s d p q (Refused r) result after e (is, kept) = rw is (λ why same. let k : f.DoubleTarget ≡ why = cc in ap (λ (w : EvalFault). stopped (stop_at w s)) k)

kept_as : (p : PlaceView) (q : PackageTargets) (outcome : Declared) (result : Answer) (after : HeldPackage) → ((r : PackageTargets) → outcome ≡ Refused r → r ≡ q) → Settles result after p outcome
    → KeepsIfRefused result (declaring (record { place = p; «package» = q })) after
kept_as p q (Accepted r) result after leaves (is, kept) = rw is tt
kept_as p q (Refused r) result after leaves (is, kept) = rw is (λ why same. kept ∙ ap (λ (x : PackageTargets). declaring (record { place = p; «package» = x })) (leaves r refl))

settles_all : (declare : PackageTargets → Declared) → LeavesIfRefused declare → (p : PlaceView) (q : PackageTargets) (outcome : Declared) (result : Answer) (after : HeldPackage) → outcome ≡ declare q
    → Settles result after p outcome → IsSettled result (declaring (record { place = p; «package» = q })) after declare
settles_all declare leaves p q outcome result after is settles = record {
  says = λ s d e.
      let at : record { place = p; «package» = q } ≡ d = cc in
      let held : q ≡ d.package = ap (λ (x : Declaring). x.package) at in
      subst (λ (o : Declared). HostDoes (λ v. v) result s after (settled s d o)) (is ∙ ap declare held) (settled_as s d p q outcome result after e settles);
  keeps = kept_as p q outcome result after (λ r h. leaves q r (sym is ∙ h)) settles;
}

pub declare_settles : (t : Target) (p : PlaceView) (q : PackageTargets) (outcome : Declared) (result : Answer) (after : HeldPackage) → outcome ≡ declared q t → Settles result after p outcome
    → IsSettled result (declaring (record { place = p; «package» = q })) after (λ x. declared x t)
declare_settles t = settles_all (λ x. declared x t) (declared_leaves t)

pub export_settles : (ls : List LabelParts) (line : ℕ) (p : PlaceView) (q : PackageTargets) (outcome : Declared) (result : Answer) (after : HeldPackage) → outcome ≡ exported q ls line
    → Settles result after p outcome → IsSettled result (declaring (record { place = p; «package» = q })) after (λ x. exported x ls line)
export_settles ls line = settles_all (λ x. exported x ls line) (exported_leaves ls line)

-- out of memory nothing is said
pub memory_settles : (before after : HeldPackage) (declare : PackageTargets → Declared) → IsSettled (Err Memory) before after declare
memory_settles before after declare = record { says = λ s d e. λ why same. absurd (cc); keeps = λ why same. absurd (cc) }

-- no BUILD file is evaluated
pub none_settles : (own : PackageParts) (packages : List BuildFile) (why : EvalFault) (declare : PackageTargets → Declared) → IsSettled (Err (Bad why)) (outside own packages) (outside own packages) declare
none_settles own packages why declare = record { says = λ s d e. absurd (cc); keeps = λ kind same. refl }

-- what nothing changes stays
pub keeps_same : {A W : Type 0} (result : Result A EvalErr) (kept : W) → KeepsIfRefused result kept kept
keeps_same (Ok x) kept = tt
keeps_same (Err e) kept = λ kind is. refl
