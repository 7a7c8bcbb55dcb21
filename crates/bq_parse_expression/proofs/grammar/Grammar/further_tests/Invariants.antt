use Rattle.std.proofs.Common.{◌≡◌, ◌-◌}
use Rattle.bq_source.specs.declared.token.TokenKind.TheVariants as k
use Rattle.bq_parse_grammar.specs.declared.tree.Nested.TheVariants.{Test}
use Rattle.bq_parse_grammar.specs.Turns.{sees, repeat, repeat_from}
use Rattle.bq_parse_grammar.specs.Reading.{after_comma, phrase}
use Rattle.bq_parse_expression.proofs.grammar.Grammar.further_tests.Given as goal

abbrev pub invariant-loop-turn : goal.invariant-loop-turn
invariant-loop-turn g l = repeat (sees k.Comma) (after_comma (phrase l.self.depth Test)) l.fn.found l.fn.tokens ≡ repeat_from (sees k.Comma) (after_comma (phrase l.self.depth Test)) (l._turn-end - l._turn) l.found l.tokens
