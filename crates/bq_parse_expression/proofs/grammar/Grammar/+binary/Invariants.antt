use Rattle.std.proofs.Common.{◌≡◌, ◌+◌, ◌*◌, ◌-◌, []}
use Rattle.bq_parse_grammar.specs.Turns.{repeat, repeat_from}
use Rattle.bq_parse_grammar.specs.Reading.{has, operation, binary, primary, phrase, variables_to}
use Rattle.bq_parse_grammar.specs.Operators as operators
use Rattle.bq_parse_expression.proofs.grammar.Grammar.+binary.Given as goal

abbrev pub decreases-binary : goal.decreases-binary
decreases-binary g l = 2 * l.level + 1

abbrev pub decreases-operations : goal.decreases-operations
decreases-operations g l = 2 * l.level

abbrev pub invariant-operations-loop-turn : goal.invariant-operations-loop-turn
invariant-operations-loop-turn g l = repeat (has (operators.operator_at l.level)) (operation l.level (binary (primary (phrase l.self.depth) (variables_to l.self.depth)) (l.level - 1))) [] l.fn.tokens ≡ repeat_from (has (operators.operator_at l.level)) (operation l.level (binary (primary (phrase l.self.depth) (variables_to l.self.depth)) (l.level - 1))) (l._turn-end - l._turn) l.found l.tokens
