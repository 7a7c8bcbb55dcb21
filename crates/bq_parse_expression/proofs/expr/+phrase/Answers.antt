use Rattle.std.proofs.Common.{◌≡◌, ap, arith}
use Rattle.bq_parse_grammar.specs.Reading.{phrase}
use Rattle.bq_parse_expression.proofs.LoopTurns.{deeper}
use Rattle.bq_parse_expression.proofs.expr.+phrase.Goals as goal

pub returns-then-depth-eq0 : goal.returns-then-depth-eq0
unfolding phrase
returns-then-depth-eq0 t c _ = let none : c.args.depth ≡ 0 = omega arith in ap (λ n. phrase n c.args.which c.args.tokens.now) none

pub returns : goal.returns
unfolding phrase
returns t c = rw (deeper (λ n. phrase n c.args.which c.args.tokens.now) c.args.depth (omega arith)) c.phrase_by.ensures
