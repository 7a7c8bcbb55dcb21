use Rattle.std.proofs.Common.{◌≡◌, ◌-◌}
use Rattle.bq_parse_grammar.specs.Turns.{repeat, repeat_from}
use Rattle.bq_parse_grammar.specs.Reading.{begins_clause, clause, phrase, variables_to}
use Rattle.bq_parse_expression.proofs.grammar.Grammar.further_clauses.Given as goal

abbrev pub invariant-loop-turn : goal.invariant-loop-turn
invariant-loop-turn g l = repeat begins_clause (clause (phrase l.self.depth) (variables_to l.self.depth)) l.fn.found l.fn.tokens ≡ repeat_from begins_clause (clause (phrase l.self.depth) (variables_to l.self.depth)) (l._turn-end - l._turn) l.found l.tokens
