use Rattle.std.proofs.Common.{◌≡◌, ◌-◌}
use Rattle.bq_source.specs.declared.token.TokenKind.TheVariants as k
use Rattle.bq_parse_grammar.specs.Turns.{sees, repeat, repeat_from}
use Rattle.bq_parse_grammar.specs.Reading.{after_comma, var_to}
use Rattle.bq_parse_expression.proofs.variables.further_vars.Given as goal

abbrev pub invariant-loop-turn : goal.invariant-loop-turn
invariant-loop-turn l = repeat (sees k.Comma) (after_comma (var_to l.depth)) l.fn.found l.fn.tokens ≡ repeat_from (sees k.Comma) (after_comma (var_to l.depth)) (l._turn-end - l._turn) l.found l.tokens
