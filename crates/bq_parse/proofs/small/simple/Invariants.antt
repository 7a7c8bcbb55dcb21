use Rattle.std.proofs.Common.{◌≡◌, ◌-◌}
use Rattle.bq_parse_grammar.specs.Turns.{turns, cut_off}
use Rattle.bq_parse_grammar.specs.ReadingStatements.{small_turn, simple}
use Rattle.bq_parse.proofs.small.simple.Given as goal

abbrev pub invariant-loop-turn : goal.invariant-loop-turn
invariant-loop-turn l = simple l.depth l.fn.tokens ≡ turns (small_turn l.depth) cut_off (l._turn-end - l._turn) l.found l.tokens
