-- What calls mean, one function at a time, from what is read of their arguments.
use Rattle.std.proofs.Common.{◌≡◌, ℕ, List, Result, Ok, Err, refl, subst}
use Rattle.bq_base.specs.Gives.{Gives}
use Rattle.bq_base.specs.declared.fault.EvalFault.{EvalFault}
use Rattle.bq_base.specs.declared.fault.EvalFault.TheVariants as f
use Rattle.bq_label.specs.Label.{LabelParts}
use Rattle.bq_value_datum.specs.Class.{Class}
use Rattle.bq_value.specs.Datum.{Datum}
use Rattle.bq_value.specs.declared.error.EvalErr.{EvalErr}
use Rattle.bq_value.specs.declared.error.EvalErr.TheVariants.{Bad}
use Rattle.bq_builtin_machine.specs.Args.{Passed}
use Rattle.bq_builtin_machine.specs.State.{State, stop_at}
use Rattle.bq_builtin_machine.specs.Action.{stopped, Does, HostDoes}
use Rattle.bq_package_target.specs.declared.target.Target.{Target}
use Rattle.bq_package_target.specs.Calls.{declared, exported}
use Rattle.bq_predeclared.specs.declared.host_function.HostFunction.{HostFunction}
use Rattle.bq_predeclared.specs.declared.host_function.HostFunction.TheVariants as b
use Rattle.bq_package.specs.Place.{PlaceView}
use Rattle.bq_package.specs.Glob.{globbed}
use Rattle.bq_package.specs.Files.{files_named}
use Rattle.bq_package.specs.Groups.{group_named}
use Rattle.bq_package.specs.Rules.{declared_target, rule_target}
use Rattle.bq_package.specs.Calls.{HeldPackage, outside, declaring, place_in, new_strings, package_name, ignored, call_in, call_by, rule_by}
use Rattle.bq_package.specs.Keeping.{IsSettled}

abbrev Answer : Type 0
Answer = Result Datum EvalErr

-- no BUILD file is evaluated
pub refused_outside : (s : State) (kept : HeldPackage) (function : HostFunction) (passed : Passed) (why : EvalFault) → place_in kept ≡ Err why → call_by s kept function passed ≡ stopped (stop_at why s)
refused_outside s (outside own packages) function passed why h = let e : f.NotInPackage ≡ why = cc in subst (λ (w : EvalFault). call_by s (outside own packages) function passed ≡ stopped (stop_at w s)) e refl
refused_outside s (declaring d) function passed why h = absurd (cc)

pub glob_refused : (s : State) (kept : HeldPackage) (p : PlaceView) (passed : Passed) (why : EvalFault) → place_in kept ≡ Ok p → globbed p s.store passed ≡ Err why → call_by s kept b.Glob passed ≡ stopped (stop_at why s)
unfolding call_in
glob_refused s (outside own packages) p passed why inside h = absurd (cc)
glob_refused s (declaring d) p passed why inside h = let e : d.place ≡ p = cc in rw (e, h) refl

pub files_refused : (s : State) (kept : HeldPackage) (p : PlaceView) (passed : Passed) (why : EvalFault) → place_in kept ≡ Ok p → files_named p s.store passed ≡ Err why → call_by s kept b.ExportsFiles passed ≡ stopped (stop_at why s)
unfolding call_in
files_refused s (outside own packages) p passed why inside h = absurd (cc)
files_refused s (declaring d) p passed why inside h = let e : d.place ≡ p = cc in rw (e, h) refl

pub group_refused : (s : State) (kept : HeldPackage) (p : PlaceView) (passed : Passed) (why : EvalFault) → place_in kept ≡ Ok p → group_named p s.store s.line passed ≡ Err why → call_by s kept b.PackageGroup passed ≡ stopped (stop_at why s)
unfolding call_in
group_refused s (outside own packages) p passed why inside h = absurd (cc)
group_refused s (declaring d) p passed why inside h = let e : d.place ≡ p = cc in rw (e, h) refl

pub rule_refused : (s : State) (kept : HeldPackage) (p : PlaceView) (passed : Passed) (rule : ℕ) (why : EvalFault) → place_in kept ≡ Ok p → rule_target p s.store s.line rule passed ≡ Err why
    → call_by s kept (b.Rule rule) passed ≡ stopped (stop_at why s)
unfolding call_in
rule_refused s (outside own packages) p passed rule why inside h = absurd (cc)
rule_refused s (declaring d) p passed rule why inside h = let e : d.place ≡ p = cc in rw (e, h) refl

-- the names that `glob` gives become a new list
pub glob_done : (s m : State) (kept : HeldPackage) (p : PlaceView) (passed : Passed) (names : List (List ℕ)) (result : Answer) → place_in kept ≡ Ok p → globbed p s.store passed ≡ Ok names
    → Does (λ v. v) result m (new_strings names s) → HostDoes (λ v. v) result m kept (call_by s kept b.Glob passed)
unfolding call_in
glob_done s m (outside own packages) p passed names result inside h does = absurd (cc)
glob_done s m (declaring d) p passed names (Ok v) inside h does = let e : d.place ≡ p = cc in rw (e, h, does) refl
glob_done s m (declaring d) p passed names (Err x) inside h does = λ why is. let e : d.place ≡ p = cc in rw (e, h, does why is) refl

pub name_done : (kept : HeldPackage) (p : PlaceView) (passed : Passed) (result : Answer) → place_in kept ≡ Ok p → Gives (λ v. v) Bad result (package_name p passed)
    → (s : State) → HostDoes (λ v. v) result s kept (call_by s kept b.PackageName passed)
unfolding call_in
name_done (outside own packages) p passed result inside gives s = absurd (cc)
name_done (declaring d) p passed (Ok v) inside gives s = let e : d.place ≡ p = cc in rw (e, gives) refl
name_done (declaring d) p passed (Err x) inside gives s = λ why is. let e : d.place ≡ p = cc in rw (e, gives why is) refl

pub package_done : (kept : HeldPackage) (p : PlaceView) (passed : Passed) (result : Answer) → place_in kept ≡ Ok p → Gives (λ v. v) Bad result (ignored passed)
    → (s : State) → HostDoes (λ v. v) result s kept (call_by s kept b.Package passed)
unfolding call_in
package_done (outside own packages) p passed result inside gives s = absurd (cc)
package_done (declaring d) p passed (Ok v) inside gives s = rw gives refl
package_done (declaring d) p passed (Err x) inside gives s = λ why is. rw (gives why is) refl

pub licenses_done : (kept : HeldPackage) (p : PlaceView) (passed : Passed) (result : Answer) → place_in kept ≡ Ok p → Gives (λ v. v) Bad result (ignored passed)
    → (s : State) → HostDoes (λ v. v) result s kept (call_by s kept b.Licenses passed)
unfolding call_in
licenses_done (outside own packages) p passed result inside gives s = absurd (cc)
licenses_done (declaring d) p passed (Ok v) inside gives s = rw gives refl
licenses_done (declaring d) p passed (Err x) inside gives s = λ why is. rw (gives why is) refl

-- a call that declares
pub files_done : (s : State) (kept after : HeldPackage) (p : PlaceView) (passed : Passed) (ls : List LabelParts) (result : Answer) → place_in kept ≡ Ok p → files_named p s.store passed ≡ Ok ls
    → IsSettled result kept after (λ q. exported q ls s.line) → HostDoes (λ v. v) result s after (call_by s kept b.ExportsFiles passed)
unfolding call_in
files_done s (outside own packages) after p passed ls result inside h settles = absurd (cc)
files_done s (declaring d) after p passed ls result inside h settles =
    let e : p ≡ d.place = cc in
    let here : files_named d.place s.store passed ≡ Ok ls = subst (λ (q : PlaceView). files_named q s.store passed ≡ Ok ls) e h in
    rw here (settles.says s d refl)

pub group_done : (s : State) (kept after : HeldPackage) (p : PlaceView) (passed : Passed) (t : Target) (result : Answer) → place_in kept ≡ Ok p → group_named p s.store s.line passed ≡ Ok t
    → IsSettled result kept after (λ q. declared q t) → HostDoes (λ v. v) result s after (call_by s kept b.PackageGroup passed)
unfolding call_in
group_done s (outside own packages) after p passed t result inside h settles = absurd (cc)
group_done s (declaring d) after p passed t result inside h settles =
    let e : p ≡ d.place = cc in
    let here : group_named d.place s.store s.line passed ≡ Ok t = subst (λ (q : PlaceView). group_named q s.store s.line passed ≡ Ok t) e h in
    rw here (settles.says s d refl)

pub rule_done : (s : State) (kept after : HeldPackage) (p : PlaceView) (passed : Passed) (rule : ℕ) (t : Target) (result : Answer) → place_in kept ≡ Ok p
    → rule_target p s.store s.line rule passed ≡ Ok t → IsSettled result kept after (λ q. declared q t) → HostDoes (λ v. v) result s after (call_by s kept (b.Rule rule) passed)
unfolding call_in
rule_done s (outside own packages) after p passed rule t result inside h settles = absurd (cc)
rule_done s (declaring d) after p passed rule t result inside h settles =
    let e : p ≡ d.place = cc in
    let here : rule_target d.place s.store s.line rule passed ≡ Ok t = subst (λ (q : PlaceView). rule_target q s.store s.line rule passed ≡ Ok t) e h in
    rw here (settles.says s d refl)

-- a rule that a .bzl file declares
pub rule_outside : (s : State) (kept : HeldPackage) (rule : List ℕ) (class : Class) (passed : Passed) (why : EvalFault) → place_in kept ≡ Err why → rule_by s kept rule class passed ≡ stopped (stop_at why s)
rule_outside s (outside own packages) rule class passed why h = let e : f.NotInPackage ≡ why = cc in subst (λ (w : EvalFault). rule_by s (outside own packages) rule class passed ≡ stopped (stop_at w s)) e refl
rule_outside s (declaring d) rule class passed why h = absurd (cc)

pub declared_refused : (s : State) (kept : HeldPackage) (p : PlaceView) (rule : List ℕ) (class : Class) (passed : Passed) (why : EvalFault) → place_in kept ≡ Ok p
    → declared_target p s.store s.line rule class passed ≡ Err why → rule_by s kept rule class passed ≡ stopped (stop_at why s)
declared_refused s (outside own packages) p rule class passed why inside h = absurd (cc)
declared_refused s (declaring d) p rule class passed why inside h = let e : d.place ≡ p = cc in rw (e, h) refl

pub declared_done : (s : State) (kept after : HeldPackage) (p : PlaceView) (rule : List ℕ) (class : Class) (passed : Passed) (t : Target) (result : Answer) → place_in kept ≡ Ok p
    → declared_target p s.store s.line rule class passed ≡ Ok t → IsSettled result kept after (λ q. declared q t) → HostDoes (λ v. v) result s after (rule_by s kept rule class passed)
declared_done s (outside own packages) after p rule class passed t result inside h settles = absurd (cc)
declared_done s (declaring d) after p rule class passed t result inside h settles =
    let e : p ≡ d.place = cc in
    let here : declared_target d.place s.store s.line rule class passed ≡ Ok t = subst (λ (q : PlaceView). declared_target q s.store s.line rule class passed ≡ Ok t) e h in
    rw here (settles.says s d refl)
