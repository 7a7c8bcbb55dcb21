use Rattle.std.proofs.Common.{◌≡◌, ◌-◌, Some}
use Rattle.bq_query_lex.specs.declared.token.QueryTokenKind.TheVariants as k
use Rattle.bq_query_parse.specs.Turns.{◌>>=◌, sees, expect, turns, repeat_turn}
use Rattle.bq_query_parse.specs.Reading.{after_comma, arguments, query_to}
use Rattle.bq_query_parse.proofs.grammar.QueryGrammar.arguments.Given as goal

abbrev pub invariant-loop-turn : goal.invariant-loop-turn
invariant-loop-turn g l = arguments (query_to l.self.depth) l.fn.tokens
    ≡ (turns (repeat_turn (sees k.Comma) (after_comma (query_to l.self.depth))) (l._turn-end - l._turn) l.found l.tokens >>= λ xs us. expect k.Close us >>= λ _ rest. Some (xs, rest))
