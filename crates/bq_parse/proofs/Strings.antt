-- String literals, by their token.
use Rattle.std.proofs.Common.{◌≡◌, Bool, true, false, if◌then◌else◌, List, [], ◌∷◌, Some, Err, refl, ap, rules, ℕ}
use denote.Enum.Bare.{same_true}
use Rattle.bq_source.specs.contracts.token.TokenKind.{the_type}
use Rattle.bq_source.specs.declared.token.TokenKind.{TokenKind}
use Rattle.bq_source.specs.declared.token.TokenKind.TheVariants as k
use Rattle.bq_source.specs.StringLiteral.{string_value}
use Rattle.bq_source.specs.Token.{same_kind}
use Rattle.bq_parse_grammar.specs.Lexeme.{Lexeme}
use Rattle.bq_parse_grammar.specs.declared.refusal.SyntaxErr.TheVariants.{Syntax}
use Rattle.bq_parse_grammar.specs.Turns.{Found, sees, next}
use Rattle.bq_parse_grammar.specs.Reading.{spelling_of}
use Rattle.bq_parse_grammar.specs.ReadingStatements.{text, text_of}
use Rattle.bq_parse_grammar.specs.Tokens.{kind_ahead}

is_kind : (a b : TokenKind) → same_kind a b ≡ true → a ≡ b
unfolding same_kind
is_kind a b e = same_true the_type (search rules) a b e

abbrev text_if : Lexeme → List Lexeme → Bool → Found (List ℕ)
text_if t ts b = if b then text_of (string_value t.spelling) ts else Err Syntax

pub string_seen : (ts : List Lexeme) → sees k.String ts ≡ true → kind_ahead ts ≡ Some k.String
string_seen [] e = absurd (cc)
string_seen (t ∷ ts) e = ap Some (is_kind t.kind k.String e)

pub text_seen : (ts : List Lexeme) → sees k.String ts ≡ true → text ts ≡ text_of (string_value (spelling_of ts)) (next ts)
text_seen [] e = absurd (cc)
text_seen (t ∷ ts) e = ap (text_if t ts) e

pub text_unseen : (ts : List Lexeme) → sees k.String ts ≡ false → text ts ≡ Err Syntax
text_unseen [] e = refl
text_unseen (t ∷ ts) e = ap (text_if t ts) e
