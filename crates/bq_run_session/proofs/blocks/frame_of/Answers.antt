use Rattle.std.proofs.Common.{◌≡◌, ◌∙◌, ap}
use Rattle.bq_run_write.specs.Status.{status_code, status_line}
use Rattle.bq_run_session.specs.Block.{body, header, line_count}
use Rattle.bq_run_session.proofs.Newlines.{body_counted}
use Rattle.bq_run_session.proofs.blocks.frame_of.Goals as goal

pub returns-clause-header : goal.returns-clause-header
returns-clause-header c =
    let line = c.args.line.now in
    let end = c.args.end.now in
    let count = c.in_ok-count.count in
    let counted : count ≡ line_count (body c.args.text.now end) =
    body_counted c.args.text.now c.deref.result.now (status_line end) count c.line_count.result c.in_ok-count.ensures c.line_count.ensures (c.deref.ensures.value ∙ c.in_ok-code.ensures.line) in
    c.in_ok-header.ensures ∙ (ap (λ s. header s count line) c.in_ok-code.ensures.code ∙ ap (λ n. header (status_code end) n line) counted)
