use Rattle.std.proofs.Common.{◌≡◌, ◌+◌, ap, arith, sym, ◌∙◌}
use Rattle.std.proofs.lemmas.Result.{IfOk-weaker}
use Rattle.std.specs.List.{concat}
use Rattle.bq_run_session.specs.Block.{line_count}
use Rattle.bq_run_session.proofs.Newlines.{counted_joined}
use Rattle.bq_run_session.proofs.blocks.with_text_lines.Goals as goal

pub returns-in-Some : goal.returns-in-Some
returns-in-Some c =
    let p = c.parts-parts.result in
    let text = c.args.text.now in
    let joined : line_count (concat p.pieces.now) + line_count p.rest.now ≡ line_count text = sym (counted_joined (concat p.pieces.now) p.rest.now) ∙ ap line_count c.parts-parts.ensures in
    IfOk-weaker c.with_lines_of.result (λ count. count ≡ c.in-Some.count + line_count (concat p.pieces.now)) (λ count. count ≡ c.args.before + line_count text)
    (λ count h. omega (arith, h, joined, c.line_count.ensures)) c.with_lines_of.ensures
