use Rattle.std.proofs.Common.{◌≡◌, ◌-◌, Ok}
use Rattle.bq_parse_grammar.specs.Turns.{turns, cut_off, ◌>>=◌}
use Rattle.bq_parse_grammar.specs.ReadingStatements.{parameter_turn, parameters}
use Rattle.bq_parse.proofs.parameter_list.parameters.Given as goal

abbrev pub invariant-loop-turn : goal.invariant-loop-turn
invariant-loop-turn l = parameters l.depth l.fn.tokens ≡ (turns (parameter_turn l.depth) cut_off (l._turn-end - l._turn) (l.found, l.allowed) l.tokens >>= λ p rest. Ok (p.0, rest))
