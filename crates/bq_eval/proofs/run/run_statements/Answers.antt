use Rattle.std.proofs.Common.{subst}
use Rattle.bq_builtin_machine.specs.Action.{Run}
use Rattle.bq_eval_spec.specs.Frame.{Frame}
use Rattle.bq_eval_frame.specs.Slots.{slots_of}
use Rattle.bq_eval_rules.specs.Acts.{Acts}
use Rattle.bq_eval_rules.specs.declared.context.Program.{Program}
use Rattle.bq_eval.proofs.Programs.{module_of_program}
use Rattle.bq_eval.proofs.run.run_statements.Goals as goal

pub returns : goal.returns
returns g c =
    let h = g.R.Runtime in
    let x = c.args.module.now in
    let p : Program = record { number = x.number; functions = c.as_slice.result; loaded = x.imports; code = x.files; frozen = x.loaded } in
    let e = module_of_program h.means p x.file.now c.as_slice-loads.result.now c.args.stmts.now (h.seen c.args.runtime.now) c.as_slice.ensures c.as_slice-loads.ensures c.requires in
    let P : Run h.State Frame → Type 0 = λ run. Acts h.means slots_of c.run_program.result (h.seen c.run_program.new.runtime) run in
    subst P e c.run_program.ensures
