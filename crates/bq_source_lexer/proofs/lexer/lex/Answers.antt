use Rattle.std.proofs.Common.{rules, arith, ap, sym, ◌∙◌, ◌≡◌, length, Err}
use Rattle.std.proofs.lemmas.Grind.{common_steps}
use Rattle.std.proofs.lemmas.Result.{err_from_is_err_and}
use Rattle.bq_source_lexer.specs.Reading.{goes}
use Rattle.bq_source_lexer.proofs.Unique.{one_reading, finished, stopped, stopped_only, only, too_long_reads}
use Rattle.bq_base.proofs.Choices.{no_bytes}
use Rattle.bq_source_lexer.proofs.Keeping.{step_shortens}
use Rattle.bq_source_lexer.proofs.lexer.lex.Goals as goal

pub returns-then-text-gt-MAX_FILE_BYTES-clause-reads : goal.returns-then-text-gt-MAX_FILE_BYTES-clause-reads
returns-then-text-gt-MAX_FILE_BYTES-clause-reads c = λ why is. too_long_reads c.args.text.now why (omega arith) (cc)

pub returns-then-text-gt-MAX_FILE_BYTES-clause-only : goal.returns-then-text-gt-MAX_FILE_BYTES-clause-only
returns-then-text-gt-MAX_FILE_BYTES-clause-only c = λ r h why is. one_reading c.args.text.now r (Err why) h (too_long_reads c.args.text.now why (omega arith) (cc))

pub loop-lexer-preserved : goal.loop-lexer-preserved
loop-lexer-preserved c = λ r h. c.loop-lexer.invariant r (goes (search rules) c.in_ok-step.ensures h)

pub returns-in_err-step-clause-reads : goal.returns-in_err-step-clause-reads
returns-in_err-step-clause-reads c =
    let p = err_from_is_err_and c.from_residual-in_err-step.result c.from_residual-in_err-step.ensures.1 in
    rw (p.1, p.2) (stopped c.args.text.now c.loop-lexer.lexer (omega arith) c.loop-lexer.invariant (search rules) _ c.in_err-step.ensures)

pub returns-in_err-step-clause-only : goal.returns-in_err-step-clause-only
returns-in_err-step-clause-only c =
    let p = err_from_is_err_and c.from_residual-in_err-step.result c.from_residual-in_err-step.ensures.1 in
    rw (p.1, p.2) (stopped_only c.args.text.now c.loop-lexer.lexer (omega arith) c.loop-lexer.invariant (search rules) _ c.in_err-step.ensures)

pub returns-clause-reads : goal.returns-clause-reads
returns-clause-reads c = finished c.args.text.now c.loop-lexer.lexer (omega arith) c.loop-lexer.invariant (no_bytes c.loop-lexer.lexer.rest (let e : length c.rest.result.now ≡ 0 = first_of (search rules, grind (arith, common_steps)) in ap length (sym c.rest.ensures) ∙ e)) c.finish.result c.finish.ensures

pub returns-clause-only : goal.returns-clause-only
returns-clause-only c = only c.args.text.now c.finish.result (finished c.args.text.now c.loop-lexer.lexer (omega arith) c.loop-lexer.invariant (no_bytes c.loop-lexer.lexer.rest (let e : length c.rest.result.now ≡ 0 = first_of (search rules, grind (arith, common_steps)) in ap length (sym c.rest.ensures) ∙ e)) c.finish.result c.finish.ensures)

pub loop-lexer-smaller : goal.loop-lexer-smaller
loop-lexer-smaller c = step_shortens c.loop-lexer.lexer c.step.new.self (search rules) c.in_ok-step.ensures
