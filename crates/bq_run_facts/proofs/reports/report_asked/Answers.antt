use Rattle.std.specs.Prelude.{option_copied}
use Rattle.std.proofs.lemmas.Result.{IfOk-weaker}
use Rattle.std.proofs.Common.{◌≡◌, ℕ}
use Rattle.bq_load_discover.specs.declared.load_err.LoadErr.TheVariants as e
use Rattle.bq_run_write.specs.Report.{report_view}
use Rattle.bq_run_write.specs.declared.ending.NoAnswer.TheVariants.{Schema}
use Rattle.bq_run.specs.WorkspaceRun.{refused}
use Rattle.bq_run_facts.specs.Facts.{IsFactsBy, origin_of}
use Rattle.bq_run_facts.proofs.reports.report_asked.Goals as goal

pub returns-in-Err : goal.returns-in-Err
returns-in-Err g c =
    let why = c.in-Err.why in
    IfOk-weaker c.without_schema.result (λ r. (line : ℕ) × (why ≡ e.Schema line) × (report_view r ≡ refused (Schema line)))
    (λ r. IsFactsBy (origin_of c.args.version.now c.args.over.now.options.now) c.args.over.now.workspace.now (option_copied c.args.asked) (report_view r))
    (λ r h. IsFactsBy.wrong_schema h.0 (c.in-Err.ensures h.0 h.1) h.2) c.without_schema.ensures
