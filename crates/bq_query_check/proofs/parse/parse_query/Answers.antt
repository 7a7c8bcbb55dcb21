use Rattle.std.proofs.lemmas.Result.{err_from_is_err_and}
use Rattle.bq_query_check.proofs.Closed.{formula_closed}
use Rattle.bq_query_check.proofs.Texts.{syntax_is_wrong, fault_is_wrong}
use Rattle.bq_query_check.proofs.parse.parse_query.Goals as goal

pub invariant_of-result : goal.invariant_of-result
invariant_of-result c = record { closed = formula_closed c.in_ok-check-in-Ok.ensures.1 }

pub returns-in_ok-check-in-Ok : goal.returns-in_ok-check-in-Ok
returns-in_ok-check-in-Ok c = record { tree = c.in-Ok.tree; parsed = c.in-Ok.ensures; sound = c.in_ok-check-in-Ok.ensures.0; formula = c.in_ok-check-in-Ok.ensures.1 }

pub returns-in_err-check-in-Ok : goal.returns-in_err-check-in-Ok
returns-in_err-check-in-Ok c =
    let p = err_from_is_err_and c.from_residual.result c.from_residual.ensures.1 in
    rw (p.1, p.2) (λ other. fault_is_wrong c.args.text.now c.in-Ok.tree _ c.in-Ok.ensures (c.in_err-check-in-Ok.ensures other))

pub returns-in-Err-Syntax : goal.returns-in-Err-Syntax
returns-in-Err-Syntax c unless = syntax_is_wrong c.args.text.now (c.in-Err-Syntax.ensures (λ m. cc (m, c.in-Err-Syntax.field-0-is)))
