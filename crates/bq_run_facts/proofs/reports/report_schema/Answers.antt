use Rattle.std.proofs.Common.{◌≡◌, Result, Ok, Err}
use Rattle.std.specs.Prelude.{IfOk, option_copied}
use Rattle.std.proofs.lemmas.Result.{IfOk-weaker}
use Rattle.bq_run_write.specs.Report.{report_view}
use Rattle.bq_load_discover.specs.declared.load_err.LoadErr.TheVariants as e
use Rattle.bq_run_write.specs.declared.ending.NoAnswer.TheVariants.{TooManyModules}
use Rattle.bq_run.specs.WorkspaceRun.{refused}
use Rattle.bq_run_facts.specs.Facts.{IsFactsBy, TellsGraph, origin_of}
use Rattle.bq_run_facts.proofs.reports.report_schema.Goals as goal

both : {A E : Type 0} (result : Result A E) (P Q R : A → Type 0) → ((x : A) → P x → Q x → R x) → IfOk result P → IfOk result Q → IfOk result R
both (Ok x) P Q R f p q = f x p q
both (Err e) P Q R f p q = tt

pub returns-in-Ok : goal.returns-in-Ok
returns-in-Ok g c =
    let files = c.args.over.now.workspace.now in
    let rules = c.args.schema.now in
    let origin = origin_of c.args.version.now c.args.over.now.options.now in
    let graph = c.in-Ok.graph in
    let asked = option_copied c.args.asked in
    IfOk-weaker c.report_graph.result (λ r. TellsGraph origin files rules graph asked (report_view r))
    (λ r. IsFactsBy origin files asked (report_view r))
    (λ r h. IsFactsBy.loaded rules graph c.requires.schema c.in-Ok.ensures.0 c.in-Ok.ensures.1 h) c.report_graph.ensures

pub returns-in-Err : goal.returns-in-Err
returns-in-Err g c =
    let files = c.args.over.now.workspace.now in
    let origin = origin_of c.args.version.now c.args.over.now.options.now in
    let asked = option_copied c.args.asked in
    both c.without_graph.result (λ r. c.in-Err.why ≡ e.TooManyModules) (λ r. report_view r ≡ refused TooManyModules) (λ r. IsFactsBy origin files asked (report_view r))
    (λ r h k. IsFactsBy.too_many c.args.schema.now c.requires.schema (c.in-Err.ensures.0 h) k) c.without_graph.ensures.why c.without_graph.ensures.report
