use Rattle.std.proofs.Common.{◌≡◌, ◌-◌}
use Rattle.bq_source.specs.declared.token.TokenKind.TheVariants as k
use Rattle.bq_parse_grammar.specs.Turns.{listed_from, listed_to}
use Rattle.bq_parse_grammar.specs.Reading.{pair, phrase, variables_to}
use Rattle.bq_parse_expression.proofs.grammar.Grammar.listed_pairs.Given as goal

abbrev pub invariant-loop-turn : goal.invariant-loop-turn
invariant-loop-turn g l = listed_from k.RightBrace (pair (phrase l.self.depth) (variables_to l.self.depth)) l.fn.found l.fn.tokens ≡ listed_to k.RightBrace (pair (phrase l.self.depth) (variables_to l.self.depth)) (l._turn-end - l._turn) l.found l.tokens
