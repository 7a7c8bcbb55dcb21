use Rattle.std.proofs.Common.{◌≡◌, ◌-◌, []}
use Rattle.bq_query_parse.specs.Turns.{turns}
use Rattle.bq_query_parse.specs.Reading.{operation_turn, operations, query_to}
use Rattle.bq_query_parse.proofs.grammar.QueryGrammar.operations.Given as goal

abbrev pub invariant-loop-turn : goal.invariant-loop-turn
invariant-loop-turn g l = operations l.self.depth (query_to l.self.depth) [] l.fn.tokens ≡ turns (operation_turn l.self.depth (query_to l.self.depth)) (l._turn-end - l._turn) l.found l.tokens
