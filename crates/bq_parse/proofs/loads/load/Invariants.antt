use Rattle.std.proofs.Common.{◌≡◌, ◌-◌, Ok}
use Rattle.bq_source.specs.declared.token.TokenKind.TheVariants as k
use Rattle.bq_parse_grammar.specs.declared.tree.SmallKind.TheVariants as small
use Rattle.bq_parse_grammar.specs.Turns.{◌>>=◌, listed_to}
use Rattle.bq_parse_grammar.specs.ReadingStatements.{load, load_clause}
use Rattle.bq_parse.proofs.loads.load.Given as goal

abbrev pub invariant-loop-turn : goal.invariant-loop-turn
invariant-loop-turn l = load l.fn.tokens
    ≡ (listed_to k.RightParen load_clause (l._turn-end - l._turn) l.clauses l.tokens >>= λ xs rest. Ok (small.Load (record { label = l.label; clauses = xs }), rest))
