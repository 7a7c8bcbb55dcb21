use Rattle.std.proofs.Common.{◌≤◌, ◌-◌, length}
use Rattle.bq_query_lex.proofs.Cuts.{IsCut}
use Rattle.bq_query_lex.proofs.lexer.lex_query.Given as goal

abbrev pub invariant-pieces : goal.invariant-pieces
invariant-pieces l = record { within : l.start ≤ length l.text; cut : IsCut l.text l.start l.tokens.items }

abbrev pub decreases-pieces : goal.decreases-pieces
decreases-pieces l = length l.text - l.start
