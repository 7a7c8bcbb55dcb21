use Rattle.std.proofs.Common.{sym, arith}
use Rattle.std.proofs.lemmas.List.{length-take-le}
use Rattle.bq_source_lexer.proofs.lexer.line_past_limit.Goals as goal

pub slice_bounds-valid-end : goal.slice_bounds-valid-end
slice_bounds-valid-end c = sym (length-take-le 1048576 c.args.text.now (omega (arith, c.requires)))

pub overflow_cast-result : goal.overflow_cast-result
overflow_cast-result c = let e = length-take-le 1048576 c.args.text.now (omega (arith, c.requires)) in omega (arith, e)

pub overflow_add-result : goal.overflow_add-result
overflow_add-result c = let e = length-take-le 1048576 c.args.text.now (omega (arith, c.requires)) in omega (arith, e)
