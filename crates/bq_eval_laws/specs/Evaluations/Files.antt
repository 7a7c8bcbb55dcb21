-- The laws of files: their steps, the frozen modules, and the rules that are declared.
use Rattle.std.specs.Prelude.{◌≡◌, ◌≢◌, ℕ, ◌<◌, ◌≤◌, List, Option, Some, Contains}
use Rattle.bq_base.specs.declared.fault.Fault.{Fault}
use Rattle.bq_base.specs.declared.fault.EvalFault.TheVariants.{StepLimit}
use Rattle.bq_resolve_scope.specs.Names.{Name}
use Rattle.bq_resolve_scope.specs.declared.file.FileLine.{FileLine}
use Rattle.bq_resolve_scope.specs.declared.file.ResolvedFile.{ResolvedFile}
use Rattle.bq_predeclared.specs.declared.host_function.HostFunction.{HostFunction}
use Rattle.bq_value_datum.specs.Class.{Class}
use Rattle.bq_value.specs.Cells.{FrozenView, content_at, frozen_at}
use Rattle.bq_value.specs.Contents.{rule}
use Rattle.bq_value.specs.Datum.{Datum}
use Rattle.bq_builtin_machine.specs.Action.{done}
use Rattle.bq_builtin_machine.specs.Args.{Passed}
use Rattle.bq_builtin_machine.specs.State.{State}
use Rattle.bq_eval_spec.specs.Frame.{Surroundings}
use Rattle.bq_eval_spec.specs.Calls.{Units, calls}
use Rattle.bq_eval_spec.specs.Slots.{by_slots}
use Rattle.bq_eval.specs.Calling.{HostCalls}
use Rattle.bq_eval.specs.Runtime.{primitives}
use Rattle.bq_eval.specs.Module.{Ended, evaluated, failed, ended, first_store, module_run}
use Rattle.bq_builtin_laws.specs.Steps.Steps.{hosted, Begins, TakesInLine}

-- a host whose calls don't look at the steps that are left, nor change what was printed, the frozen modules, a rule or the line of the
-- statement that is running: those of its own functions, and those of rules that .bzl files declare
abbrev pub HostTakes : {W : Type 0} → HostCalls W → Type 0
HostTakes {W = W} host =
    ((function : HostFunction) (args : Passed) (s : State × W) → TakesInLine hosted (host.call function args) s)
    × ((kind : List ℕ) (class : Class) (args : Passed) (s : State × W) → TakesInLine hosted (host.call_rule kind class args) s)

-- what a file printed, whether it was evaluated or failed
abbrev pub prints_of : Ended → List (List ℕ)
prints_of (evaluated frozen prints) = prints
prints_of (failed fault prints) = prints

-- F53, when a beginning of these was printed
abbrev pub EndsShort : Ended → List (List ℕ) → Type 0
EndsShort (evaluated frozen prints) all = ⊥
EndsShort (failed fault prints) all = (fault.kind ≡ StepLimit) × Begins prints all

-- A file has a number of steps and an outcome of its own: under every limit of at least that many steps it has its
-- outcome, and under a lower one it is F53 after a beginning of the same prints.
pub record FileTakes (ends : ℕ → Ended) : Type 0 where
  pub steps : ℕ
  pub outcome : Ended
  pub enough : (limit : ℕ) → steps ≤ limit → ends limit ≡ outcome
  pub short : (limit : ℕ) → limit < steps → EndsShort (ends limit) (prints_of outcome)

-- what is frozen at a file's end, if it ended well
abbrev pub FrozenAre : Ended → (FrozenView → Type 0) → Type 0
FrozenAre (evaluated frozen prints) P = P frozen
FrozenAre (failed fault prints) P = Unit {0}

-- the fault names the line of one of these statements
pub record IsAtStatement {K : Type 0} (statements : List FileLine) (fault : Fault K) : Type 0 where
  pub statement : FileLine
  pub among : Contains statements statement
  pub line : fault.line ≡ statement.line

-- a file that failed is at one of its own statements
abbrev pub FailsAtAStatement : ResolvedFile → Ended → Type 0
FailsAtAStatement file (evaluated frozen prints) = Unit {0}
FailsAtAStatement file (failed fault prints) = IsAtStatement file.statements fault

module _ {W : Type 0} (names : List Name) (host : HostCalls W) where
  -- what a file ends in, under that limit
  abbrev pub ends : List (Option ResolvedFile) → ℕ → ResolvedFile → List FrozenView → List Datum → W → ℕ → Ended
  ends code number file loaded imports kept limit = ended file imports (module_run names host code number file loaded imports limit kept)

  abbrev pub FilesTakeTheirSteps : Type 0
  FilesTakeTheirSteps = (code : List (Option ResolvedFile)) (number : ℕ) (file : ResolvedFile) (loaded : List FrozenView) (imports : List Datum) (kept : W) → FileTakes (ends code number file loaded imports kept)

  -- A cell of another module holds at the end what it held at the start, whatever functions of it were called (F47).
  abbrev pub OtherModulesStay : Type 0
  OtherModulesStay =
      (code : List (Option ResolvedFile)) (number : ℕ) (file : ResolvedFile) (loaded : List FrozenView) (imports : List Datum) (kept : W) (limit : ℕ) (home cell : ℕ) → home ≢ number
      → FrozenAre (ends code number file loaded imports kept limit) (λ f. frozen_at f home cell ≡ content_at (first_store number loaded) home cell)

  -- A fault names the line of one of the file's own top-level statements, whichever module's function it was in.
  abbrev pub FilesFailAtTheirStatements : Type 0
  FilesFailAtTheirStatements =
      (code : List (Option ResolvedFile)) (number : ℕ) (file : ResolvedFile) (loaded : List FrozenView) (imports : List Datum) (kept : W) (limit : ℕ) → FailsAtAStatement file (ends code number file loaded imports kept limit)

  -- A rule holds the attributes that it was declared with, whatever is called after that.
  abbrev pub CallsKeepRules : Type 0
  CallsKeepRules =
      (left : ℕ) (units : Units Surroundings) (v : Datum) (args : Passed) (s : State × W) (result : Datum) (t : State × W) → calls left (primitives names host) by_slots units v args s ≡ done result t
      → (home number : ℕ) (class : Class) → content_at s.0.store home number ≡ Some (rule class) → content_at t.0.store home number ≡ Some (rule class)
