-- A module of a program is a file that runs as the statements of it do.
use Rattle.std.proofs.Common.{◌≡◌, List, refl}
use Rattle.bq_resolve_scope.specs.declared.file.FileLine.{FileLine}
use Rattle.bq_resolve_scope.specs.declared.loads.LoadStmt.{LoadStmt}
use Rattle.bq_resolve_scope.specs.declared.file.ResolvedFile.{ResolvedFile}
use Rattle.bq_eval_spec.specs.Slots.{module_meaning, frozen_units}
use Rattle.bq_eval_spec.specs.Primitives.{Primitives}
use Rattle.bq_eval_rules.specs.Round.{views_of, lent_files}
use Rattle.bq_eval_rules.specs.declared.context.Program.{Program}
use Rattle.bq_eval.specs.Outcomes.{program_run}

pub module_of_program : {S : Type 0} (m : Primitives S) (p : Program) (file : ResolvedFile) (loads : List LoadStmt) (stmts : List FileLine) (s : S)
    → p.functions.now ≡ file.functions → loads ≡ file.loads → stmts ≡ file.statements
    → program_run m p loads stmts s ≡ module_meaning m (frozen_units (lent_files p.code.now) (views_of p.frozen.now)) p.number file p.loaded.now s
unfolding program_run module_meaning
module_of_program m p file loads stmts s functions all of = rw functions rw all rw of refl
