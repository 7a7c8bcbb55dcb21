-- Why a call fails where several things are wrong with it: for the first of these, in the call's own order.
--
-- An order is a list of checks. Each of them says what it finds wrong with the call, if anything, whatever the others find.
use Rattle.std.specs.Prelude.{◌≡◌, Bool, cond, List, [], ◌∷◌, Option, Some, None, Result, Ok, Err}
use Rattle.bq_base.specs.declared.fault.EvalFault.{EvalFault}
use Rattle.bq_builtin_machine.specs.Action.{Run, done, stopped}

-- what one check finds wrong, if anything
abbrev pub Check : Type 0
Check = Option EvalFault

-- this fault, where this is so
abbrev pub when : {K : Type 0} → Bool → K → Option K
when so kind = cond so (Some kind) None

-- the first fault that checks find
abbrev pub first_fault : {K : Type 0} → List (Option K) → Option K
first_fault [] = None
first_fault (Some kind ∷ checks) = Some kind
first_fault (None ∷ checks) = first_fault checks

-- why a run stops, if it does
abbrev pub fault_of : {S A : Type 0} → Run S A → Check
fault_of (done a s) = None
fault_of (stopped why) = Some why.kind

-- why there is no answer, if there is none
abbrev pub fault_in : {A K : Type 0} → Result A K → Option K
fault_in (Ok a) = None
fault_in (Err kind) = Some kind

-- what a check finds wrong with an answer, where there is one
abbrev pub fault_then : {A : Type 0} → Result A EvalFault → (A → Check) → Check
fault_then (Ok a) check = check a
fault_then (Err kind) check = None

-- what a check finds wrong with the result of a run, where there is one
abbrev pub fault_after : {S A : Type 0} → Run S A → (A → Check) → Check
fault_after (done a s) check = check a
fault_after (stopped why) check = None

-- the run stops for the first fault that these checks find, and doesn't stop where they find none
abbrev pub IsRefusedForFirst : {S A : Type 0} → Run S A → List Check → Type 0
IsRefusedForFirst run checks = fault_of run ≡ first_fault checks

-- there is no answer for the first fault that these checks find, and there is one where they find none
abbrev pub FailsForFirst : {A K : Type 0} → Result A K → List (Option K) → Type 0
FailsForFirst result checks = fault_in result ≡ first_fault checks
