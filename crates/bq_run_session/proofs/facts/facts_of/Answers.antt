use Rattle.std.proofs.Common.{List, ℕ, refl, subst}
use Rattle.std.specs.Prelude.{Option}
use Rattle.bq_run_write.specs.Deeds.{run_report}
use Rattle.bq_run_write.specs.Report.{report_view}
use Rattle.bq_run_facts.specs.Facts.{IsFactsOn, origin_of}
use Rattle.bq_run_session.proofs.facts.facts_of.Goals as goal

pub returns : goal.returns
returns g c =
    let r = report_view c.in_ok-report.report in
    let origin = origin_of c.args.by.version.now c.args.by.options.now in
    let is = subst (λ (q : Option (List ℕ)). IsFactsOn origin c.args.workspace.now q r) c.query_bytes-asked.ensures c.in_ok-report.ensures in
    (run_report r, (r, is, refl), c.told_by.ensures.text, c.told_by.ensures.end)
