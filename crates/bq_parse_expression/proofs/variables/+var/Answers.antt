use Rattle.std.proofs.Common.{◌≡◌, ap, arith}
use Rattle.bq_parse_grammar.specs.Reading.{var_to}
use Rattle.bq_parse_expression.proofs.LoopTurns.{deeper}
use Rattle.bq_parse_expression.proofs.variables.+var.Goals as goal

pub returns-then-depth-eq0 : goal.returns-then-depth-eq0
unfolding var_to
returns-then-depth-eq0 t c _ = let none : c.args.depth ≡ 0 = omega arith in ap (λ n. var_to n c.args.tokens.now) none

pub returns : goal.returns
unfolding var_to
returns t c = rw (deeper (λ n. var_to n c.args.tokens.now) c.args.depth (omega arith)) c.var.ensures
