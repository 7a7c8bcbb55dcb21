-- A fault of a file's evaluation is at one of its own statements.
use Rattle.std.proofs.Common.{◌≡◌, List, [], ◌∷◌, Contains, refl, sym, subst}
use Rattle.bq_label.proofs.Orders.{at_head, in_tail}
use Rattle.bq_resolve_scope.specs.Names.{Name}
use Rattle.bq_resolve_scope.specs.declared.file.FileLine.{FileLine}
use Rattle.bq_resolve_scope.specs.declared.file.ResolvedFile.{ResolvedFile}
use Rattle.bq_value.specs.Datum.{Datum}
use Rattle.bq_builtin_machine.specs.Action.{Run, done, stopped, following}
use Rattle.bq_builtin_machine.specs.State.{State, started}
use Rattle.bq_eval_spec.specs.Frame.{Frame, empty, Surroundings}
use Rattle.bq_eval_spec.specs.Calls.{Units}
use Rattle.bq_eval_spec.specs.Module as language
use Rattle.bq_eval_spec.specs.Module.{Own, top_level, top_levels, eval_top}
use Rattle.bq_eval_spec.specs.Slots.{by_slots, own_of, first_globals, module_meaning, frozen_units}
use Rattle.bq_eval_spec.specs.Statements.{Flow, next, leave, again, answer, go_on}
use Rattle.bq_eval.specs.Calling.{HostCalls}
use Rattle.bq_eval.specs.Runtime.{primitives}
use Rattle.bq_eval.specs.Module.{first_store, fault_of, ended, module_run}
use Rattle.bq_eval_laws.proofs.ModuleRules.{outside_rule, top_rule}
use Rattle.bq_builtin_laws.specs.Steps.Steps.{hosted, InLine}
use Rattle.bq_eval_laws.specs.Evaluations.Files.{HostTakes, IsAtStatement, FailsAtAStatement, FilesFailAtTheirStatements}
use Rattle.bq_eval_laws.proofs.Evaluations.Hosts.{OwnsItsSteps, own_steps}

module _ {W : Type 0} (all : List FileLine) where
  -- a run that stops, if it does, in the line of one of these statements
  abbrev Told : {A : Type 0} → Run (State × W) A → Type 0
  Told (done x s) = Unit {0}
  Told (stopped why) = IsAtStatement all (fault_of why)

  told_in_line : {A : Type 0} (t : FileLine) (r : Run (State × W) A) → Contains all t → InLine hosted t.line r → Told r
  told_in_line t (done x s) among line = tt
  told_in_line t (stopped why) among line = record { statement = t; among = among; line = line }

  module _ (names : List Name) (host : HostCalls W) (hosts : HostTakes host) (units : Units Surroundings) (own : Own Surroundings Frame) where
    abbrev Flowing : Type 0
    Flowing = Run (State × W) (Flow × Frame)

    abbrev run_all : List FileLine → Frame → State × W → Flowing
    run_all ts globals = top_levels (primitives names host) by_slots own (eval_top (primitives names host) by_slots units own) ts globals

    abbrev run_one : FileLine → Frame → State × W → Flowing
    run_one t globals = top_level (primitives names host) by_slots own (eval_top (primitives names host) by_slots units own) t globals

    one_told : (t : FileLine) → Contains all t → (globals : Frame) (s : State × W) → Told (run_one t globals s)
    unfolding top_level primitives
    one_told t among globals s =
        told_in_line t (run_one t globals s) among
        (outside_rule (primitives names host) by_slots (OwnsItsSteps W) (own_steps names host hosts) own (eval_top (primitives names host) by_slots units own)
        (top_rule (primitives names host) by_slots (OwnsItsSteps W) (own_steps names host hosts) own units) t.statement globals (record s.0 { line = t.line }, s.1)).line

    after_one : (ts : List FileLine) (r : Flowing) → Told r → ((globals : Frame) (s : State × W) → Told (run_all ts globals s)) → Told (following r (go_on (run_all ts)))
    after_one ts (stopped why) h rest = h
    after_one ts (done (next, globals) s) h rest = rest globals s
    after_one ts (done (leave, globals) s) h rest = tt
    after_one ts (done (again, globals) s) h rest = tt
    after_one ts (done (answer v, globals) s) h rest = tt

    all_told : (ts : List FileLine) → ((t : FileLine) → Contains ts t → Contains all t) → (globals : Frame) (s : State × W) → Told (run_all ts globals s)
    unfolding top_levels
    all_told [] inside globals s = tt
    all_told (t ∷ ts) inside globals s = after_one ts (run_one t globals s) (one_told t (inside t (at_head t ts)) globals s) (all_told ts (λ u c. inside u (in_tail t ts u c)))

  ended_told : (file : ResolvedFile) (imports : List Datum) (r : Run (State × W) (Flow × Frame)) → file.statements ≡ all → Told r → FailsAtAStatement file (ended file imports (following r (λ p. λ s. done p.1 s)))
  ended_told file imports (done p s) same h = tt
  ended_told file imports (stopped why) same h = subst (λ (z : List FileLine). IsAtStatement z (fault_of why)) (sym same) h

module _ {W : Type 0} (names : List Name) (host : HostCalls W) (hosts : HostTakes host) where
  pub files_fail_at : FilesFailAtTheirStatements names host
  unfolding module_run module_meaning language.module_meaning
  files_fail_at code number file loaded imports kept limit =
      let own : Own Surroundings Frame = own_of number file imports in
      let units = frozen_units code loaded in
      let s : State × W = (started (first_store number loaded) limit, kept) in
      let globals = first_globals file.loads imports empty in
      ended_told file.statements file imports (run_all file.statements names host hosts units own file.statements globals s) refl
      (all_told file.statements names host hosts units own file.statements (λ t c. c) globals s)
