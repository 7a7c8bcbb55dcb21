-- The calls of build functions, and of rules of the schema and of .bzl files, have numbers of steps and outcomes of their own: what they declare hangs on the arguments, on
-- the store and on the line, and not on the steps that are left.
use Rattle.std.proofs.Common.{◌≡◌, ℕ, List, Result, Ok, Err, refl}
use Rattle.bq_base.specs.declared.fault.EvalFault.{EvalFault}
use Rattle.bq_base.specs.declared.fault.EvalFault.TheVariants.{NotInPackage}
use Rattle.bq_value_datum.specs.Class.{Class}
use Rattle.bq_value.specs.Datum.{Datum}
use Rattle.bq_builtin_machine.specs.Action.{Action, Run, stopped, given, on_machine}
use Rattle.bq_builtin_machine.specs.Args.{Passed}
use Rattle.bq_builtin_machine.specs.Machine.{with_steps}
use Rattle.bq_builtin_machine.specs.State.{State, stop_at}
use Rattle.bq_package_target.specs.declared.state.Declared.{Declared}
use Rattle.bq_package_target.specs.declared.state.Declared.TheVariants.{Accepted, Refused}
use Rattle.bq_package_target.specs.Calls.{declared, exported}
use Rattle.bq_predeclared.specs.declared.host_function.HostFunction.{HostFunction}
use Rattle.bq_predeclared.specs.declared.host_function.HostFunction.TheVariants as b
use Rattle.bq_package.specs.Glob.{globbed}
use Rattle.bq_package.specs.Files.{files_named}
use Rattle.bq_package.specs.Groups.{group_named}
use Rattle.bq_package.specs.Rules.{declared_target, rule_target}
use Rattle.bq_package.specs.Calls.{Declaring, HeldPackage, outside, declaring, new_strings, package_name, ignored, settled, declares, call_in, call_by, call_of, rule_call, meaning}
use Rattle.bq_eval_laws.specs.Evaluations.Files.{HostTakes}
use Rattle.bq_eval_laws.proofs.Evaluations.Hosts.{beside_owns}
use Rattle.bq_builtin_laws.specs.Steps.Laws.{Own}
use Rattle.bq_builtin_laws.specs.Steps.Steps.{hosted, Begins, leaving, printed, Leaves, InLine, TakesInLine}
use Rattle.bq_builtin_laws.proofs.Steps.Rows.{new_list_owns}
use Rattle.bq_builtin_laws.proofs.Steps.Machine.{given_owns, bind_owns}
use Rattle.bq_builtin_laws.proofs.Steps.Owning.{begins_itself, stays_itself, here_at_no_cost, here_at_state}

abbrev Ending : Type 0
Ending = Run (State × HeldPackage) Datum

-- ---- calls that declare

module _ (s : State) (d : Declaring) where
  settled_more : (n : ℕ) (x : Declared) → settled (with_steps n s) d x ≡ leaving hosted n (settled s d x)
  settled_more n (Accepted after) = refl
  settled_more n (Refused after) = refl

  settled_prints : (x : Declared) → Begins s.prints (printed hosted (settled s d x))
  settled_prints (Accepted after) = begins_itself s.prints
  settled_prints (Refused after) = begins_itself s.prints

  settled_leaves : (x : Declared) → Leaves hosted s.store (settled s d x)
  settled_leaves (Accepted after) = stays_itself s.store
  settled_leaves (Refused after) = tt

  settled_line : (x : Declared) → InLine {S = State × HeldPackage} hosted s.line (settled s d x)
  settled_line (Accepted after) = refl
  settled_line (Refused after) = refl

  module _ {A : Type 0} (declare : A → Declared) where
    declares_more : (n : ℕ) (r : Result A EvalFault) → declares (with_steps n s) d r declare ≡ leaving hosted n (declares s d r declare)
    declares_more n (Ok a) = settled_more n (declare a)
    declares_more n (Err why) = refl

    declares_prints : (r : Result A EvalFault) → Begins s.prints (printed hosted (declares s d r declare))
    declares_prints (Ok a) = settled_prints (declare a)
    declares_prints (Err why) = begins_itself s.prints

    declares_leaves : (r : Result A EvalFault) → Leaves hosted s.store (declares s d r declare)
    declares_leaves (Ok a) = settled_leaves (declare a)
    declares_leaves (Err why) = tt

    declares_line : (r : Result A EvalFault) → InLine {S = State × HeldPackage} hosted s.line (declares s d r declare)
    declares_line (Ok a) = settled_line (declare a)
    declares_line (Err why) = refl

    declares_own : (a : Action (State × HeldPackage) Datum) (r : Result A EvalFault) → ((n : ℕ) → a (with_steps n s, declaring d) ≡ declares (with_steps n s) d r declare) → TakesInLine hosted a (s, declaring d)
    declares_own a r is =
        here_at_state hosted a (λ q. declares q.0 d r declare) (s, declaring d) is (is s.steps)
        (here_at_no_cost hosted (λ q. declares q.0 d r declare) (s, declaring d) (declares s d r declare) (λ n. declares_more n r) (declares_prints r) (declares_leaves r) (declares_line r))

-- ---- calls that give a value

module _ (s : State) (d : Declaring) where
  machine_owns : (a : Action (State × HeldPackage) Datum) (m : Action State Datum) → ((n : ℕ) → a (with_steps n s, declaring d) ≡ on_machine m (with_steps n s, declaring d)) → Own m → TakesInLine hosted a (s, declaring d)
  machine_owns a m is owns = here_at_state hosted a (on_machine m) (s, declaring d) is (is s.steps) (beside_owns (declaring d) m s (owns s))

strings_own : (texts : List (List ℕ)) → Own (new_strings texts)
unfolding new_strings
strings_own texts = new_list_owns _

-- ---- all calls

-- a call of this function
abbrev called : HostFunction → Passed → Action (State × HeldPackage) Datum
called f passed = λ q. call_by q.0 q.1 f passed

in_package : (s : State) (d : Declaring) (f : HostFunction) (passed : Passed) → TakesInLine hosted (called f passed) (s, declaring d)
unfolding call_in
in_package s d b.Glob passed = machine_owns s d (called b.Glob passed) _ (λ n. refl) (bind_owns (given (globbed d.place s.store passed)) new_strings (given_owns _) strings_own)
in_package s d b.PackageName passed = machine_owns s d (called b.PackageName passed) (given (package_name d.place passed)) (λ n. refl) (given_owns _)
in_package s d b.Package passed = machine_owns s d (called b.Package passed) (given (ignored passed)) (λ n. refl) (given_owns _)
in_package s d b.Licenses passed = machine_owns s d (called b.Licenses passed) (given (ignored passed)) (λ n. refl) (given_owns _)
in_package s d b.ExportsFiles passed = declares_own s d (λ ls. exported d.package ls s.line) (called b.ExportsFiles passed) (files_named d.place s.store passed) (λ n. refl)
in_package s d b.PackageGroup passed = declares_own s d (declared d.package) (called b.PackageGroup passed) (group_named d.place s.store s.line passed) (λ n. refl)
in_package s d (b.Rule rule) passed = declares_own s d (declared d.package) (called (b.Rule rule) passed) (rule_target d.place s.store s.line rule passed) (λ n. refl)

by_kept : (s : State) (kept : HeldPackage) (f : HostFunction) (passed : Passed) → TakesInLine hosted (called f passed) (s, kept)
by_kept s (outside own packages) f passed =
    here_at_no_cost hosted (called f passed) (s, outside own packages) (stopped (stop_at NotInPackage s)) (λ n. refl) (begins_itself s.prints) tt refl
by_kept s (declaring d) f passed = in_package s d f passed

-- a call of a rule that a .bzl file declares
rule_by_kept : (s : State) (kept : HeldPackage) (rule : List ℕ) (class : Class) (passed : Passed) → TakesInLine hosted (rule_call rule class passed) (s, kept)
unfolding rule_call
rule_by_kept s (outside own packages) rule class passed =
    here_at_no_cost hosted (rule_call rule class passed) (s, outside own packages) (stopped (stop_at NotInPackage s)) (λ n. refl) (begins_itself s.prints) tt refl
rule_by_kept s (declaring d) rule class passed =
    declares_own s d (declared d.package) (rule_call rule class passed) (declared_target d.place s.store s.line rule class passed) (λ n. refl)

pub calls_own : HostTakes meaning
unfolding call_of
calls_own = ((λ function passed q. by_kept q.0 q.1 function passed), (λ rule class passed q. rule_by_kept q.0 q.1 rule class passed))
