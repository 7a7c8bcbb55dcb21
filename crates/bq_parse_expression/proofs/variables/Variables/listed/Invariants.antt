use Rattle.std.proofs.Common.{◌≡◌, ◌-◌}
use Rattle.bq_parse_grammar.specs.Turns.{listed_from, listed_to}
use Rattle.bq_parse_grammar.specs.Reading.{var_to}
use Rattle.bq_parse_expression.proofs.variables.Variables.listed.Given as goal

abbrev pub invariant-loop-turn : goal.invariant-loop-turn
invariant-loop-turn g l = listed_from l.close (var_to l.self.depth) l.fn.found l.fn.tokens ≡ listed_to l.close (var_to l.self.depth) (l._turn-end - l._turn) l.found l.tokens
