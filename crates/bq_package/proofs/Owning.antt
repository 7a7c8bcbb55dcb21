-- What calls declare is of the package that is kept.
use Rattle.std.proofs.Common.{◌≡◌, ℕ, Bool, true, false, cond, List, ◌++◌, Option, Some, None, Ok, refl, sym, subst, slice_get}
use Rattle.std.specs.List.{list_all, list_any}
use Rattle.bq_label.specs.Label.{PackageParts, LabelParts, package_of}
use Rattle.bq_value_datum.specs.Class.{Class}
use Rattle.bq_value.specs.Cells.{StoreView}
use Rattle.bq_builtin_machine.specs.Args.{Passed}
use Rattle.bq_builtin_machine.specs.Binding.{bind}
use Rattle.bq_package_target.specs.declared.target.Target.{Target}
use Rattle.bq_package_target.specs.declared.state.Declared.{Declared}
use Rattle.bq_package_target.specs.declared.state.Declared.TheVariants.{Accepted, Refused}
use Rattle.bq_package_target.specs.Target.{is_of, names_of, declares as declares_targets}
use Rattle.bq_package_target.specs.Names.{are_new}
use Rattle.bq_package_target.specs.Package.{PackageTargets, IsOwnCall, is_taken, files}
use Rattle.bq_package_target.specs.Calls.{declared, exported}
use Rattle.bq_package_values.specs.declared.label_texts.TextKind.TheVariants as k
use Rattle.bq_package_values.specs.Steps.{and_then}
use Rattle.bq_package_values.specs.LabelTexts.{label, labels}
use Rattle.bq_package_values.proofs.Steps.{both_ok}
use Rattle.bq_package_values.proofs.Own.{name_label_own, name_labels_own}
use Rattle.bq_package_attributes.proofs.Declared.{declared_own}
use Rattle.bq_package.specs.Place.{PlaceView}
use Rattle.bq_package_values.specs.Parameters.{argument}
use Rattle.bq_package.specs.Bound.{exports_parameters, group_parameters, text_of, texts_of}
use Rattle.bq_package.specs.Files.{files_named}
use Rattle.bq_package.specs.Groups.{names_first, group, group_labels, group_of, group_named}
use Rattle.bq_package.specs.Rules.{declared_target, target_by, rule_target}
use Rattle.bq_package.specs.Calls.{HeldPackage, outside, declaring, place_in}
use Rattle.bq_package.specs.Keeping.{package_after, OwnsTarget, OwnsFiles}

-- ---- files

files_of : (p : PlaceView) (store : StoreView) (passed : Passed) (ls : List LabelParts) → files_named p store passed ≡ Ok ls → list_all (is_of p.own) ls ≡ true
unfolding files_named
files_of p store passed ls h =
    let r = both_ok (bind exports_parameters passed) (λ b. and_then (texts_of store (argument b.values 0)) (labels p.own p.packages k.Name)) ls h in
    let q = both_ok (texts_of store (argument r.0.values 0)) (labels p.own p.packages k.Name) ls r.2 in
    name_labels_own p.own p.packages q.0 ls q.2

pub files_owned : (kept : HeldPackage) (p : PlaceView) (store : StoreView) (passed : Passed) (ls : List LabelParts) → place_in kept ≡ Ok p → files_named p store passed ≡ Ok ls → OwnsFiles kept ls
files_owned (outside own packages) p store passed ls inside h = tt
files_owned (declaring d) p store passed ls inside h = let e : p ≡ d.place = cc in subst (λ (q : PlaceView). list_all (is_of q.own) ls ≡ true) e (files_of p store passed ls h)

-- ---- targets

target_owned : (kept : HeldPackage) (p : PlaceView) (t : Target) → place_in kept ≡ Ok p → IsOwnCall p.own t → OwnsTarget kept t
target_owned (outside own packages) p t inside h = tt
target_owned (declaring d) p t inside h = let e : p ≡ d.place = cc in subst (λ (q : PlaceView). IsOwnCall q.own t) e h

group_is_own : (own : PackageParts) (line : ℕ) (l : LabelParts) (includes : List LabelParts) → is_of own l ≡ true → IsOwnCall own (group line l includes)
unfolding declares_targets
group_is_own own line l includes mine = rw mine refl

labels_of_own : (p : PlaceView) (first : Bool) (name : List ℕ) (includes : List (List ℕ)) (r : LabelParts × List LabelParts) → group_labels p first name includes ≡ Ok r → is_of p.own r.0 ≡ true
unfolding group_labels
labels_of_own p true name includes r h =
    let x = both_ok (label p.own p.packages k.Name name) (λ l. and_then (labels p.own p.packages k.Label includes) (λ ls. Ok (l, ls))) r h in
    let y = both_ok (labels p.own p.packages k.Label includes) (λ ls. Ok (x.0, ls)) r x.2 in
    let e : (x.0, y.0) ≡ r = cc in
    subst (λ (q : LabelParts × List LabelParts). is_of p.own q.0 ≡ true) e (name_label_own p.own p.packages name x.0 x.1)
labels_of_own p false name includes r h =
    let x = both_ok (labels p.own p.packages k.Label includes) (λ ls. and_then (label p.own p.packages k.Name name) (λ l. Ok (l, ls))) r h in
    let y = both_ok (label p.own p.packages k.Name name) (λ l. Ok (l, x.0)) r x.2 in
    let e : (y.0, x.0) ≡ r = cc in
    subst (λ (q : LabelParts × List LabelParts). is_of p.own q.0 ≡ true) e (name_label_own p.own p.packages name y.0 y.1)

group_own : (p : PlaceView) (store : StoreView) (line : ℕ) (passed : Passed) (t : Target) → group_named p store line passed ≡ Ok t → IsOwnCall p.own t
unfolding group_named group_of
group_own p store line passed t h =
    let r = both_ok (bind group_parameters passed) (λ b. and_then (text_of (argument b.values 0)) (λ name. and_then (texts_of store (argument b.values 2)) (λ includes. and_then (group_labels p (names_first passed) name includes) (λ r. Ok (group line r.0 r.1))))) t h in
    let n = both_ok (text_of (argument r.0.values 0)) (λ name. and_then (texts_of store (argument r.0.values 2)) (λ includes. and_then (group_labels p (names_first passed) name includes) (λ r. Ok (group line r.0 r.1)))) t r.2 in
    let i = both_ok (texts_of store (argument r.0.values 2)) (λ includes. and_then (group_labels p (names_first passed) n.0 includes) (λ r. Ok (group line r.0 r.1))) t n.2 in
    let g = both_ok (group_labels p (names_first passed) n.0 i.0) (λ r. Ok (group line r.0 r.1)) t i.2 in
    let e : group line g.0.0 g.0.1 ≡ t = cc in
    subst (λ (q : Target). IsOwnCall p.own q) e (group_is_own p.own line g.0.0 g.0.1 (labels_of_own p (names_first passed) n.0 i.0 g.0 g.1))

pub group_owned : (kept : HeldPackage) (p : PlaceView) (store : StoreView) (line : ℕ) (passed : Passed) (t : Target) → place_in kept ≡ Ok p → group_named p store line passed ≡ Ok t → OwnsTarget kept t
group_owned kept p store line passed t inside h = target_owned kept p t inside (group_own p store line passed t h)

rule_own : (p : PlaceView) (store : StoreView) (line : ℕ) (name : Option (List ℕ)) (class : Option Class) (passed : Passed) (t : Target) → target_by p store line name class passed ≡ Ok t → IsOwnCall p.own t
unfolding declared_target
rule_own p store line None class passed t h = absurd (cc)
rule_own p store line (Some rule) None passed t h = absurd (cc)
rule_own p store line (Some rule) (Some class) passed t h = declared_own p.own p.packages store class rule line passed t h

pub rule_owned : (kept : HeldPackage) (p : PlaceView) (store : StoreView) (line rule : ℕ) (passed : Passed) (t : Target) → place_in kept ≡ Ok p → rule_target p store line rule passed ≡ Ok t → OwnsTarget kept t
unfolding rule_target
rule_owned kept p store line rule passed t inside h = target_owned kept p t inside (rule_own p store line (slice_get p.rules.names rule) (slice_get p.rules.classes rule) passed t h)

pub declared_owned : (kept : HeldPackage) (p : PlaceView) (store : StoreView) (line : ℕ) (rule : List ℕ) (class : Class) (passed : Passed) (t : Target) → place_in kept ≡ Ok p → declared_target p store line rule class passed ≡ Ok t
    → OwnsTarget kept t
unfolding declared_target
declared_owned kept p store line rule class passed t inside h = target_owned kept p t inside (declared_own p.own p.packages store class rule line passed t h)

-- ---- the package that a call leaves

by_new : (own : PackageParts) (p q : PackageTargets) (new : Bool) → package_of p.build_file ≡ own → package_of q.build_file ≡ own → package_of (package_after (cond new (Accepted q) (Refused p))).build_file ≡ own
by_new own p q true h e = e
by_new own p q false h e = h

pub declared_in : (own : PackageParts) (p : PackageTargets) (t : Target) (after : Declared) → package_of p.build_file ≡ own → after ≡ declared p t → package_of (package_after after).build_file ≡ own
unfolding declared
declared_in own p t after h is =
    subst (λ (d : Declared). package_of (package_after d).build_file ≡ own) (sym is) (by_new own p (record p { targets = p.targets ++ declares_targets t }) (are_new (names_of p.targets) (names_of (declares_targets t))) h h)

by_taken : (own : PackageParts) (p q : PackageTargets) (taken : Bool) → package_of p.build_file ≡ own → package_of q.build_file ≡ own → package_of (package_after (cond taken (Refused p) (Accepted q))).build_file ≡ own
by_taken own p q true h e = h
by_taken own p q false h e = e

pub exported_in : (own : PackageParts) (p : PackageTargets) (ls : List LabelParts) (line : ℕ) (after : Declared) → package_of p.build_file ≡ own → after ≡ exported p ls line → package_of (package_after after).build_file ≡ own
unfolding exported
exported_in own p ls line after h is =
    subst (λ (d : Declared). package_of (package_after d).build_file ≡ own) (sym is) (by_taken own p (record p { targets = p.targets ++ files line p.targets ls }) (list_any (is_taken p.targets) ls) h h)

-- ---- the package that is kept

pub target_here : (own : PackageParts) (q : PackageTargets) (t : Target) → package_of q.build_file ≡ own → IsOwnCall own t → IsOwnCall (package_of q.build_file) t
target_here own q t e h = subst (λ (p : PackageParts). IsOwnCall p t) (sym e) h

pub files_here : (own : PackageParts) (q : PackageTargets) (ls : List LabelParts) → package_of q.build_file ≡ own → list_all (is_of own) ls ≡ true → list_all (is_of (package_of q.build_file)) ls ≡ true
files_here own q ls e h = subst (λ (p : PackageParts). list_all (is_of p) ls ≡ true) (sym e) h
