use Rattle.std.proofs.Common.{◌≡◌, ◌-◌, []}
use Rattle.bq_parse_grammar.specs.Turns.{repeat, repeat_from}
use Rattle.bq_parse_grammar.specs.Reading.{has, operation, not_test, primary, phrase, variables_to}
use Rattle.bq_parse_grammar.specs.Operators as operators
use Rattle.bq_parse_expression.proofs.grammar.Grammar.and_operations.Given as goal

abbrev pub invariant-loop-turn : goal.invariant-loop-turn
invariant-loop-turn g l = repeat (has (operators.operator_at 9)) (operation 9 (not_test (primary (phrase l.self.depth) (variables_to l.self.depth)))) [] l.fn.tokens ≡ repeat_from (has (operators.operator_at 9)) (operation 9 (not_test (primary (phrase l.self.depth) (variables_to l.self.depth)))) (l._turn-end - l._turn) l.found l.tokens
