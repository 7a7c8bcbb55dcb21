use Rattle.std.proofs.Common.{◌≡◌, ap, arith}
use Rattle.bq_query_parse.specs.Reading.{query_to}
use Rattle.bq_query_parse.proofs.LoopTurns.{deeper}
use Rattle.bq_query_parse.proofs.parse.+query.Goals as goal

pub returns-then-depth-eq0 : goal.returns-then-depth-eq0
unfolding query_to
returns-then-depth-eq0 t c _ = let none : c.args.depth ≡ 0 = omega arith in ap (λ n. query_to n c.args.tokens.now) none

pub returns : goal.returns
unfolding query_to
returns t c = rw (deeper (λ n. query_to n c.args.tokens.now) c.args.depth (omega arith)) c.query_in.ensures
