use Rattle.std.proofs.Common.{◌≡◌, ◌-◌, []}
use Rattle.bq_parse_grammar.specs.Turns.{repeat, repeat_from}
use Rattle.bq_parse_grammar.specs.Reading.{has, looked_up}
use Rattle.bq_parse_grammar.specs.Operators as operators
use Rattle.bq_parse_expression.proofs.binary.negations.Given as goal

abbrev pub invariant-loop-turn : goal.invariant-loop-turn
invariant-loop-turn l = repeat (has operators.negation) (looked_up operators.negation) [] l.fn.tokens ≡ repeat_from (has operators.negation) (looked_up operators.negation) (l._turn-end - l._turn) l.found l.tokens
