use Rattle.std.proofs.Common.{◌≡◌, ◌-◌, Ok}
use Rattle.bq_parse_grammar.specs.Turns.{turns, cut_off, ◌>>=◌}
use Rattle.bq_parse_grammar.specs.Reading.{argument_turn, arguments, phrase, variables_to}
use Rattle.bq_parse_expression.proofs.grammar.Grammar.arguments.Given as goal

abbrev pub invariant-loop-turn : goal.invariant-loop-turn
invariant-loop-turn g l = arguments (phrase l.self.depth) (variables_to l.self.depth) l.fn.tokens ≡ (turns (argument_turn (phrase l.self.depth) (variables_to l.self.depth)) cut_off (l._turn-end - l._turn) (l.found, l.allowed) l.tokens >>= λ p rest. Ok (p.0, rest))
