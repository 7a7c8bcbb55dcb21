use Rattle.std.proofs.Common.{◌≡◌, ◌-◌}
use Rattle.bq_source.specs.declared.token.TokenKind.TheVariants as k
use Rattle.bq_parse_grammar.specs.Turns.{sees, repeat, repeat_from}
use Rattle.bq_parse_grammar.specs.ReadingStatements.{elif, statement}
use Rattle.bq_parse.proofs.blocks.BlockRules.elifs.Given as goal

abbrev pub invariant-loop-turn : goal.invariant-loop-turn
invariant-loop-turn g l = repeat (sees k.Elif) (elif l.self.depth (statement l.self.inside)) l.fn.found l.fn.tokens ≡ repeat_from (sees k.Elif) (elif l.self.depth (statement l.self.inside)) (l._turn-end - l._turn) l.found l.tokens
