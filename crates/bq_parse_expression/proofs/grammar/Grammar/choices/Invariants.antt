use Rattle.std.proofs.Common.{◌≡◌, ◌-◌, [], length}
use Rattle.bq_parse_grammar.specs.Turns.{turns, whole}
use Rattle.bq_parse_grammar.specs.Reading.{choice_turn, primary, phrase, variables_to}
use Rattle.bq_parse_expression.proofs.grammar.Grammar.choices.Given as goal

abbrev pub invariant-loop-turn : goal.invariant-loop-turn
invariant-loop-turn g l = turns (choice_turn (primary (phrase l.self.depth) (variables_to l.self.depth))) whole (length l.fn.tokens) ([], l.fn.value) l.fn.tokens ≡ turns (choice_turn (primary (phrase l.self.depth) (variables_to l.self.depth))) whole (l._turn-end - l._turn) (l.choices, l.value) l.tokens
