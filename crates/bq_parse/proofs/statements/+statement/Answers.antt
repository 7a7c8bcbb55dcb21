use Rattle.std.proofs.Common.{◌≡◌, ap, arith}
use Rattle.bq_parse_grammar.specs.ReadingStatements.{statement}
use Rattle.bq_parse.proofs.LoopTurns.{statement_above}
use Rattle.bq_parse.proofs.statements.+statement.Goals as goal

pub returns-then-depth-eq0 : goal.returns-then-depth-eq0
unfolding statement
returns-then-depth-eq0 t c _ = let none : c.args.depth ≡ 0 = omega arith in ap (λ n. statement n c.args.tokens.now) none

pub returns : goal.returns
returns t c = rw (statement_above c.args.depth c.args.tokens.now (omega arith)) c.stmt.ensures
