use Rattle.std.proofs.Common.{◌≡◌, ◌-◌, Ok}
use Rattle.bq_source.specs.declared.token.TokenKind.TheVariants as k
use Rattle.bq_parse_grammar.specs.Turns.{◌>>=◌, expect, repeat_from}
use Rattle.bq_parse_grammar.specs.ReadingStatements.{suite, in_block, statement}
use Rattle.bq_parse.proofs.blocks.BlockRules.suite.Given as goal

abbrev pub invariant-loop-turn : goal.invariant-loop-turn
invariant-loop-turn g l = suite l.self.depth (statement l.self.inside) l.fn.tokens
    ≡ (repeat_from in_block (statement l.self.inside) (l._turn-end - l._turn) l.found l.tokens >>= λ xs us. expect k.Outdent us >>= λ _ rest. Ok (xs, rest))
