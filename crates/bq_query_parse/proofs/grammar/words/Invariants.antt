use Rattle.std.proofs.Common.{◌≡◌, ◌-◌, []}
use Rattle.bq_query_parse.specs.Turns.{turns, repeat, repeat_turn}
use Rattle.bq_query_parse.specs.Reading.{begins_word, a_word}
use Rattle.bq_query_parse.proofs.grammar.words.Given as goal

abbrev pub invariant-loop-turn : goal.invariant-loop-turn
invariant-loop-turn l = repeat begins_word a_word [] l.fn.tokens ≡ turns (repeat_turn begins_word a_word) (l._turn-end - l._turn) l.found l.tokens
