-- What is declared stays.
use Rattle.std.proofs.Common.{◌≡◌, ◌∙◌, ℕ, Bool, true, false, cond, List, [], ◌++◌, Result, Ok, Err, refl, sym, ap, append-nil}
use Rattle.std.specs.List.{list_any}
use Rattle.bq_base.specs.declared.fault.EvalFault.{EvalFault}
use Rattle.bq_label.specs.Label.{LabelParts}
use Rattle.bq_value_datum.specs.Class.{Class}
use Rattle.bq_value.specs.Datum.{Datum}
use Rattle.bq_builtin_machine.specs.Args.{Passed}
use Rattle.bq_builtin_machine.specs.State.{State}
use Rattle.bq_builtin_machine.specs.Action.{Run, done, stopped, ◌>>=◌, given, on_machine}
use Rattle.bq_builtin_machine.specs.Cells.{new_list, new_content}
use Rattle.bq_package_target.specs.declared.target.Target.{Target}
use Rattle.bq_package_target.specs.declared.state.Declared.{Declared}
use Rattle.bq_package_target.specs.declared.state.Declared.TheVariants.{Accepted, Refused}
use Rattle.bq_package_target.specs.Target.{names_of, declares as declares_targets}
use Rattle.bq_package_target.specs.Names.{are_new}
use Rattle.bq_package_target.specs.Package.{PackageTargets, is_taken, files}
use Rattle.bq_package_target.specs.Calls.{declared, exported}
use Rattle.bq_predeclared.specs.declared.host_function.HostFunction.{HostFunction}
use Rattle.bq_predeclared.specs.declared.host_function.HostFunction.TheVariants as b
use Rattle.bq_package.specs.Glob.{globbed}
use Rattle.bq_package.specs.Files.{files_named}
use Rattle.bq_package.specs.Groups.{group_named}
use Rattle.bq_package.specs.Rules.{declared_target, rule_target}
use Rattle.bq_package.specs.Calls.{HeldPackage, declaring, Declaring, new_strings, package_name, ignored, settled, declares, call_in, rule_by, call_of, rule_call}
use Rattle.bq_package.specs.Laws.{CallsOutsideAreRefused, GoesOn, WhatIsDeclaredStays}

pub calls_outside_are_refused : CallsOutsideAreRefused
unfolding call_of rule_call
calls_outside_are_refused = record { calls = λ id passed s own packages. refl; rules = λ rule class passed s own packages. refl }

abbrev Ending : Type 0
Ending = Run (State × HeldPackage) Datum

abbrev ended : Datum → State × HeldPackage → Ending
ended v q = done v q

-- nothing is declared
same_package : (d : Declaring) (v w : Datum) (s t : State) (after : HeldPackage) → ended v (s, declaring d) ≡ ended w (t, after) → GoesOn d after
same_package d v w s t after h =
    let q : (s, declaring d) ≡ (t, after) = cc in
    record { next = d; more = []; kept = sym (ap (λ (x : State × HeldPackage). x.1) q); place = refl; targets = sym (append-nil d.package.targets) }

answer_stays : (s t : State) (d : Declaring) (r : Result Datum EvalFault) (w : Datum) (after : HeldPackage) → on_machine {W = HeldPackage} (given r) (s, declaring d) ≡ done w (t, after) → GoesOn d after
answer_stays s t d (Ok v) w after h = same_package d v w s t after h
answer_stays s t d (Err kind) w after h = absurd (cc)

module _ (d : Declaring) (s t : State) (w : Datum) (after : HeldPackage) where
  -- a call that adds targets
  adds : (declare : PackageTargets → Declared) → ((q : PackageTargets) → declare d.package ≡ Accepted q → (more : List Target) × (q.targets ≡ d.package.targets ++ more)) → (outcome : Declared)
      → declare d.package ≡ outcome → settled s d outcome ≡ done w (t, after) → GoesOn d after
  adds declare each (Accepted q) is h =
      let e : (s, declaring (record d { «package» = q })) ≡ (t, after) = cc in
      let m = each q is in
      record { next = record d { «package» = q }; more = m.0; kept = sym (ap (λ (x : State × HeldPackage). x.1) e); place = refl; targets = m.1 }
  adds declare each (Refused q) is h = absurd (cc)

  declares_stays : {A : Type 0} (r : Result A EvalFault) (declare : A → PackageTargets → Declared)
      → ((x : A) (q : PackageTargets) → declare x d.package ≡ Accepted q → (more : List Target) × (q.targets ≡ d.package.targets ++ more))
      → declares s d r (λ x. declare x d.package) ≡ done w (t, after) → GoesOn d after
  declares_stays (Ok x) declare each h = adds (declare x) (each x) (declare x d.package) refl h
  declares_stays (Err kind) declare each h = absurd (cc)

by_new : (p x q : PackageTargets) (more : List Target) (new : Bool) → x.targets ≡ p.targets ++ more → cond new (Accepted x) (Refused p) ≡ Accepted q → (rest : List Target) × (q.targets ≡ p.targets ++ rest)
by_new p x q more true e h = let same : x ≡ q = cc in (more, ap (λ (z : PackageTargets). z.targets) (sym same) ∙ e)
by_new p x q more false e h = absurd (cc)

by_taken : (p x q : PackageTargets) (more : List Target) (taken : Bool) → x.targets ≡ p.targets ++ more → cond taken (Refused p) (Accepted x) ≡ Accepted q → (rest : List Target) × (q.targets ≡ p.targets ++ rest)
by_taken p x q more true e h = absurd (cc)
by_taken p x q more false e h = let same : x ≡ q = cc in (more, ap (λ (z : PackageTargets). z.targets) (sym same) ∙ e)

declared_adds : (t : Target) (p q : PackageTargets) → declared p t ≡ Accepted q → (more : List Target) × (q.targets ≡ p.targets ++ more)
unfolding declared
declared_adds t p q h = by_new p (record p { targets = p.targets ++ declares_targets t }) q (declares_targets t) (are_new (names_of p.targets) (names_of (declares_targets t))) refl h

exported_adds : (line : ℕ) (ls : List LabelParts) (p q : PackageTargets) → exported p ls line ≡ Accepted q → (more : List Target) × (q.targets ≡ p.targets ++ more)
unfolding exported
exported_adds line ls p q h = by_taken p (record p { targets = p.targets ++ files line p.targets ls }) q (files line p.targets ls) (list_any (is_taken p.targets) ls) refl h

names_stay : (s t : State) (d : Declaring) (r : Result (List (List ℕ)) EvalFault) (w : Datum) (after : HeldPackage) → on_machine {W = HeldPackage} (given r >>= new_strings) (s, declaring d) ≡ done w (t, after)
    → GoesOn d after
unfolding new_strings new_list new_content
names_stay s t d (Err kind) w after h = absurd (cc)
names_stay s t d (Ok names) w after h =
    record { next = d; more = []; kept = sym (kept_of h); place = refl; targets = sym (append-nil d.package.targets) }
  where
    state_of : Ending → HeldPackage
    state_of (done v q) = q.1
    state_of (stopped why) = declaring d

    kept_of : {run : Ending} → run ≡ done w (t, after) → state_of run ≡ after
    kept_of e = ap state_of e

call_stays : (function : HostFunction) (passed : Passed) (s t : State) (d : Declaring) (w : Datum) (after : HeldPackage) → call_in d s function passed ≡ done w (t, after) → GoesOn d after
unfolding call_in
call_stays b.Glob passed s t d w after h = names_stay s t d (globbed d.place s.store passed) w after h
call_stays b.PackageName passed s t d w after h = answer_stays s t d (package_name d.place passed) w after h
call_stays b.Package passed s t d w after h = answer_stays s t d (ignored passed) w after h
call_stays b.Licenses passed s t d w after h = answer_stays s t d (ignored passed) w after h
call_stays b.ExportsFiles passed s t d w after h =
    declares_stays d s t w after (files_named d.place s.store passed) (λ ls p. exported p ls s.line) (λ ls q is. exported_adds s.line ls d.package q is) h
call_stays b.PackageGroup passed s t d w after h =
    declares_stays d s t w after (group_named d.place s.store s.line passed) (λ x p. declared p x) (λ x q is. declared_adds x d.package q is) h
call_stays (b.Rule rule) passed s t d w after h =
    declares_stays d s t w after (rule_target d.place s.store s.line rule passed) (λ x p. declared p x) (λ x q is. declared_adds x d.package q is) h

rule_stays : (rule : List ℕ) (class : Class) (passed : Passed) (s t : State) (d : Declaring) (w : Datum) (after : HeldPackage) → rule_by s (declaring d) rule class passed ≡ done w (t, after) → GoesOn d after
rule_stays rule class passed s t d w after h =
    declares_stays d s t w after (declared_target d.place s.store s.line rule class passed) (λ x p. declared p x) (λ x q is. declared_adds x d.package q is) h

pub what_is_declared_stays : WhatIsDeclaredStays
unfolding call_of rule_call
what_is_declared_stays = record {
  calls = λ function passed s t d v after h. call_stays function passed s t d v after h;
  rules = λ rule class passed s t d v after h. rule_stays rule class passed s t d v after h;
}
