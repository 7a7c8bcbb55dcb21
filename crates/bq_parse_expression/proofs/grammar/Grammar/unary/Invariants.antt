use Rattle.std.proofs.Common.{◌≡◌, ◌-◌, Ok}
use Rattle.bq_parse_grammar.specs.Grammar.{unary_of}
use Rattle.bq_parse_grammar.specs.Operators as operators
use Rattle.bq_parse_grammar.specs.Turns.{◌>>=◌, repeat_from}
use Rattle.bq_parse_grammar.specs.Reading.{has, looked_up, prefixed, primary, phrase, variables_to}
use Rattle.bq_parse_expression.proofs.grammar.Grammar.unary.Given as goal

abbrev pub invariant-loop-turn : goal.invariant-loop-turn
invariant-loop-turn g l = prefixed operators.sign (primary (phrase l.self.depth) (variables_to l.self.depth)) l.fn.tokens
    ≡ (repeat_from (has operators.sign) (looked_up operators.sign) (l._turn-end - l._turn) l.signs l.tokens
    >>= λ os mid. primary (phrase l.self.depth) (variables_to l.self.depth) mid >>= λ x rest. Ok (unary_of os x, rest))
