use Rattle.std.proofs.Common.{rules, arith, inl, inr}
use Rattle.std.proofs.lemmas.Grind.{common_steps}
use Rattle.std.proofs.lemmas.Result.{err_from_is_err_and}
use Rattle.bq_run.proofs.Deeds.{not_read_if, of_bundle_if}
use Rattle.bq_run.proofs.runs.run.Goals as goal

pub returns-in_err-workspace-clause-does : goal.returns-in_err-workspace-clause-does
returns-in_err-workspace-clause-does g c =
    let p = err_from_is_err_and c.from_residual.result c.from_residual.ensures.1 in
    rw (p.1, p.2) (not_read_if (g.F.ByteSink.contents c.args.faults_writer.now) (g.W.ByteSink.contents c.args.writer.now) c.args.options.now (g.R.ByteSource.remaining c.args.reader.now) c.in_err-workspace.field-0.0
    (λ h. c.in_err-workspace.ensures.none (grind (arith, common_steps)))
    (elim (c.in_err-workspace.ensures.only (search rules)) [
      | inl b ↦ inl (grind (arith, common_steps))
      | inr other ↦ elim other [ inl m ↦ inr (inl (grind (arith, common_steps))) | inr r ↦ inr (inr (grind (arith, common_steps))) ]
    ]))

pub returns-clause-does : goal.returns-clause-does
returns-clause-does g c =
    of_bundle_if c.args.options.now (g.R.ByteSource.remaining c.args.reader.now) c.in_ok-workspace.workspace c.run_files.result
    (g.F.ByteSink.contents c.args.faults_writer.now) (g.F.ByteSink.contents c.run_files.new.faults_writer) (g.W.ByteSink.contents c.args.writer.now) (g.W.ByteSink.contents c.run_files.new.writer)
    c.in_ok-workspace.ensures.found c.run_files.ensures.does
