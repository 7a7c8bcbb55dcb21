-- What the types of the code stand for.
use Rattle.std.specs.Prelude.{ℕ, List}
use Rattle.bq_resolve_scope.specs.Names.{Name}
use Rattle.bq_resolve_scope.specs.declared.file.FileLine.{FileLine}
use Rattle.bq_resolve_scope.specs.declared.loads.LoadStmt.{LoadStmt}
use Rattle.bq_builtin_machine.specs.Action.{Run, Action}
use Rattle.bq_builtin_machine.specs.State.{State}
use Rattle.bq_eval_spec.specs.Frame.{Frame, empty}
use Rattle.bq_eval_spec.specs.Primitives.{Primitives}
use Rattle.bq_eval_spec.specs.Module as language
use Rattle.bq_eval_spec.specs.Slots.{by_slots, first_globals, frozen_units, module_meaning}
use Rattle.bq_eval_rules.specs.Round.{views_of, lent_files, own_of}
use Rattle.bq_eval_rules.specs.declared.context.Program.{Program}
use Rattle.bq_eval.specs.Calling.{HostCalls}
use Rattle.bq_eval.specs.Module.{Ended, evaluated, failed, module_run}
use Rattle.bq_eval.specs.declared.module.ResolvedModule.{ResolvedModule}
use Rattle.bq_eval.specs.declared.outcome.FileOutcome.{FileOutcome}
use Rattle.bq_eval.specs.declared.outcome.FileOutcome.TheVariants as o

-- the outcome of a file, as contracts see it
abbrev pub ended_of : FileOutcome → Ended
ended_of (o.Module frozen prints) = evaluated frozen prints.items
ended_of (o.Failed fault prints) = failed fault prints.items

-- where the rules have these names, and the host means this by its calls: with `limit` steps, from what the host keeps
abbrev pub run_of : {W : Type 0} → List Name → HostCalls W → ResolvedModule → ℕ → W → Run (State × W) Frame
run_of rules host m limit kept = module_run rules host (lent_files m.files.now) m.number m.file.now (views_of m.loaded.now) m.imports.now limit kept

-- the statements of a module's file run, where the primitive operations mean this
abbrev pub file_run : {S : Type 0} → Primitives S → ResolvedModule → Action S Frame
file_run means m = module_meaning means (frozen_units (lent_files m.files.now) (views_of m.loaded.now)) m.number m.file.now m.imports.now

-- these lines run as those of a module of a program; what it loads gives some globals their first values
unfoldable pub program_run : {S : Type 0} → Primitives S → Program → List LoadStmt → List FileLine → Action S Frame
program_run m p loads lines =
    language.module_meaning m by_slots (frozen_units (lent_files p.code.now) (views_of p.frozen.now)) (own_of p) lines (first_globals loads p.loaded.now empty)
