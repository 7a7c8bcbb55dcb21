-- The next token of a list, as the code sees it.
use Rattle.std.proofs.Common.{◌≡◌, suc, List, [], ◌∷◌, length, Some, None, refl}
use Rattle.bq_source.specs.declared.token.TokenKind.{TokenKind}
use Rattle.bq_parse_grammar.specs.Lexeme.{Lexeme}
use Rattle.bq_parse_grammar.specs.Turns.{next}
use Rattle.bq_parse_grammar.specs.Tokens.{kind_ahead}

pub one_less : (ts : List Lexeme) (q : TokenKind) → kind_ahead ts ≡ Some q → length ts ≡ suc (length (next ts))
one_less [] q e = absurd (cc)
one_less (t ∷ ts) q e = refl

pub none_left : (ts : List Lexeme) → kind_ahead ts ≡ None → length ts ≡ 0
none_left [] e = refl
none_left (t ∷ ts) e = absurd (cc)

pub same_kind_ahead : (t : Lexeme) (ts : List Lexeme) (q : TokenKind) → kind_ahead (t ∷ ts) ≡ Some q → t.kind ≡ q
same_kind_ahead t ts q e = cc
