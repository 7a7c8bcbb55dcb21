-- Each call of a build function or of a rule leaves the label of the package, and adds source files, or targets in the line that is running.
use Rattle.std.proofs.Common.{◌≡◌, ◌∙◌, ◌++◌, ℕ, Bool, true, false, List, [], Result, Ok, Err, refl, sym, ap, append_assoc, append-nil}
use Rattle.std.specs.Prelude.{if◌then◌else◌}
use Rattle.std.specs.List.{list_any}
use Rattle.bq_base.specs.declared.fault.EvalFault.{EvalFault}
use Rattle.bq_label.specs.Label.{LabelParts}
use Rattle.bq_value_datum.specs.Class.{Class}
use Rattle.bq_builtin_machine.specs.Action.{given, ◌>>=◌}
use Rattle.bq_builtin_machine.specs.Args.{Passed}
use Rattle.bq_builtin_machine.specs.State.{State}
use Rattle.bq_package_target.specs.declared.state.Declared.{Declared}
use Rattle.bq_package_target.specs.declared.state.Declared.TheVariants.{Accepted, Refused}
use Rattle.bq_package_target.specs.declared.target.Target.{Target}
use Rattle.bq_package_target.specs.Target.{names_of, declares as declared_by}
use Rattle.bq_package_target.specs.Names.{are_new}
use Rattle.bq_package_target.specs.Package.{PackageTargets, is_taken, files}
use Rattle.bq_package_target.specs.Calls.{declared, exported}
use Rattle.bq_predeclared.specs.declared.host_function.HostFunction.{HostFunction}
use Rattle.bq_predeclared.specs.declared.host_function.HostFunction.TheVariants as b
use Rattle.bq_package.specs.Glob.{globbed}
use Rattle.bq_package.specs.Files.{files_named}
use Rattle.bq_package.specs.Groups.{group_named}
use Rattle.bq_package.specs.Rules.{declared_target, rule_target}
use Rattle.bq_package.specs.Calls.{Declaring, HeldPackage, outside, declaring, new_strings, package_name, ignored, settled, declares, call_in, call_by, call_of, rule_by, rule_call}
use Rattle.bq_load_laws.proofs.Tokens.{all_append}
use Rattle.bq_load_laws.specs.Packages.Declared.{IsFileOrIn}
use Rattle.bq_load_laws.proofs.Packages.Keeping.{Left, beside_left}
use Rattle.bq_load_laws.proofs.Packages.Lines.{AllIn, call_declares, all_in, files_are_files, IsAt, declared_at, rule_at, group_at}

-- a package gains source files, and what is declared in this line
pub record Grows (line : ℕ) (before after : PackageTargets) : Type 0 where
  pub build_file : after.build_file ≡ before.build_file
  pub new : List Target
  pub targets : after.targets ≡ before.targets ++ new
  pub in_line : AllIn line new

-- so does the package of a BUILD file while a statement in this line is running; else none is kept
abbrev pub Held : ℕ → HeldPackage → HeldPackage → Type 0
Held line (outside own packages) (outside others more) = Unit {0}
Held line (outside own packages) (declaring e) = ⊥
Held line (declaring d) (outside own packages) = ⊥
Held line (declaring d) (declaring e) = Grows line d.package e.package

pub held_still : (line : ℕ) (k : HeldPackage) → Held line k k
held_still line (outside own packages) = tt
held_still line (declaring d) = record { build_file = refl; new = []; targets = sym (append-nil d.package.targets); in_line = tt }

module _ (line : ℕ) (first : Declaring) where
  -- what a call declares
  abbrev Declares : Declared → Type 0
  Declares (Accepted after) = Grows line first.package after
  Declares (Refused after) = Unit {0}

  module _ (s : State) (d : Declaring) (at : s.line ≡ line) (h : Grows line first.package d.package) where
    grown : (more : List Target) → AllIn line more → Grows line first.package (record d.package { targets = d.package.targets ++ more })
    grown more all = record {
      build_file = h.build_file;
      new = h.new ++ more;
      targets = ap (λ (ts : List Target). ts ++ more) h.targets ∙ append_assoc first.package.targets h.new more;
      in_line = all_append (IsFileOrIn line) h.new more h.in_line all;
    }

    grown_if : (more : List Target) → AllIn line more → (b : Bool) → Declares (if b then Accepted (record d.package { targets = d.package.targets ++ more }) else Refused d.package)
    grown_if more all true = grown more all
    grown_if more all false = tt

    grown_unless : (more : List Target) → AllIn line more → (b : Bool) → Declares (if b then Refused d.package else Accepted (record d.package { targets = d.package.targets ++ more }))
    grown_unless more all true = tt
    grown_unless more all false = grown more all

    declared_grows : (t : Target) → t.line ≡ s.line → Declares (declared d.package t)
    unfolding declared
    declared_grows t e = grown_if (declared_by t) (call_declares line t (e ∙ at)) (are_new (names_of d.package.targets) (names_of (declared_by t)))

    exported_grows : (ls : List LabelParts) → Declares (exported d.package ls s.line)
    unfolding exported
    exported_grows ls =
        let more = files s.line d.package.targets ls in
        grown_unless more (all_in line more (files_are_files s.line d.package.targets ls)) (list_any (is_taken d.package.targets) ls)

    settled_left : (x : Declared) → Declares x → Left (Held line (declaring first)) (settled s d x)
    settled_left (Accepted after) grows = grows
    settled_left (Refused after) grows = tt

    target_left : (r : Result Target EvalFault) → IsAt s.line r → Left (Held line (declaring first)) (declares s d r (declared d.package))
    target_left (Ok t) e = settled_left (declared d.package t) (declared_grows t e)
    target_left (Err why) e = tt

    files_left : (r : Result (List LabelParts) EvalFault) → Left (Held line (declaring first)) (declares s d r (λ ls. exported d.package ls s.line))
    files_left (Ok ls) = settled_left (exported d.package ls s.line) (exported_grows ls)
    files_left (Err why) = tt

    in_package : (f : HostFunction) (passed : Passed) → Left (Held line (declaring first)) (call_in d s f passed)
    unfolding call_in
    in_package b.Glob passed = beside_left (Held line (declaring first)) (declaring d) h ((given (globbed d.place s.store passed) >>= new_strings) s)
    in_package b.PackageName passed = beside_left (Held line (declaring first)) (declaring d) h (given (package_name d.place passed) s)
    in_package b.Package passed = beside_left (Held line (declaring first)) (declaring d) h (given (ignored passed) s)
    in_package b.Licenses passed = beside_left (Held line (declaring first)) (declaring d) h (given (ignored passed) s)
    in_package b.ExportsFiles passed = files_left (files_named d.place s.store passed)
    in_package b.PackageGroup passed = target_left (group_named d.place s.store s.line passed) (group_at s.line d.place s.store passed)
    in_package (b.Rule rule) passed = target_left (rule_target d.place s.store s.line rule passed) (rule_at s.line d.place s.store rule passed)

module _ (line : ℕ) where
  by_kept : (k : HeldPackage) (s : State) (kept : HeldPackage) (f : HostFunction) (passed : Passed) → s.line ≡ line → Held line k kept → Left (Held line k) (call_by s kept f passed)
  by_kept k s (outside own packages) f passed at h = tt
  by_kept (declaring first) s (declaring d) f passed at h = in_package line first s d at h f passed
  by_kept (outside own packages) s (declaring d) f passed at h = absurd h

  by_rule : (k : HeldPackage) (s : State) (kept : HeldPackage) (rule : List ℕ) (class : Class) (passed : Passed) → s.line ≡ line → Held line k kept → Left (Held line k) (rule_by s kept rule class passed)
  by_rule k s (outside own packages) rule class passed at h = tt
  by_rule (declaring first) s (declaring d) rule class passed at h = target_left line first s d at h (declared_target d.place s.store s.line rule class passed) (declared_at s.line d.place s.store rule class passed)
  by_rule (outside own packages) s (declaring d) rule class passed at h = absurd h

  pub rules_keep : (k : HeldPackage) (rule : List ℕ) (class : Class) (passed : Passed) (q : State × HeldPackage) → q.0.line ≡ line → Held line k q.1 → Left (Held line k) (rule_call rule class passed q)
  unfolding rule_call
  rules_keep k rule class passed q at h = by_rule k q.0 q.1 rule class passed at h

  pub calls_keep : (k : HeldPackage) (f : HostFunction) (passed : Passed) (q : State × HeldPackage) → q.0.line ≡ line → Held line k q.1 → Left (Held line k) (call_of f passed q)
  unfolding call_of
  calls_keep k f passed q at h = by_kept k q.0 q.1 f passed at h
