use Rattle.std.proofs.Common.{◌≡◌, ◌-◌}
use Rattle.bq_parse_grammar.specs.declared.tree.Nested.TheVariants.{Test}
use Rattle.bq_parse_grammar.specs.Turns.{listed_from, listed_to}
use Rattle.bq_parse_grammar.specs.Reading.{phrase}
use Rattle.bq_parse_expression.proofs.grammar.Grammar.listed.Given as goal

abbrev pub invariant-loop-turn : goal.invariant-loop-turn
invariant-loop-turn g l = listed_from l.close (phrase l.self.depth Test) l.fn.found l.fn.tokens ≡ listed_to l.close (phrase l.self.depth Test) (l._turn-end - l._turn) l.found l.tokens
