use Rattle.std.proofs.Common.{◌≡◌, ◌-◌, Ok}
use Rattle.bq_parse_grammar.specs.Grammar.{primary_of}
use Rattle.bq_parse_grammar.specs.Turns.{◌>>=◌, repeat_from}
use Rattle.bq_parse_grammar.specs.Reading.{begins_suffix, suffix, primary, phrase, variables_to}
use Rattle.bq_parse_expression.proofs.grammar.Grammar.primary.Given as goal

abbrev pub invariant-loop-turn : goal.invariant-loop-turn
invariant-loop-turn g l = primary (phrase l.self.depth) (variables_to l.self.depth) l.fn.tokens
    ≡ (repeat_from begins_suffix (suffix (phrase l.self.depth) (variables_to l.self.depth)) (l._turn-end - l._turn) l.suffixes l.tokens >>= λ xs rest. Ok (primary_of l.operand xs, rest))
