-- Kinds of tokens, and the next token.
use Rattle.std.proofs.Common.{◌≡◌, Bool, true, false, List, [], ◌∷◌, refl, ap, ◌∙◌, rules}
use denote.Enum.Bare.{same_true, true_same}
use Rattle.bq_source.specs.contracts.token.TokenKind.{the_type}
use Rattle.bq_source.specs.declared.token.TokenKind.{TokenKind}
use Rattle.bq_source.specs.Token.{same_kind}
use Rattle.bq_parse_grammar.specs.Lexeme.{Lexeme}
use Rattle.bq_parse_grammar.specs.Turns.{sees, next}

pub is_kind : (a b : TokenKind) → same_kind a b ≡ true → a ≡ b
unfolding same_kind
is_kind a b e = same_true the_type (search rules) a b e

pub kind_is : (a b : TokenKind) → a ≡ b → same_kind a b ≡ true
unfolding same_kind
kind_is a b e = true_same the_type a b e

pub sees_it : (t : Lexeme) (ts : List Lexeme) (q : TokenKind) → t.kind ≡ q → sees q (t ∷ ts) ≡ true
sees_it t ts q e = kind_is t.kind q e

-- kinds that a test tells apart
pub apart : (f : TokenKind → Bool) (a b : TokenKind) → f a ≡ true → f b ≡ false → same_kind a b ≡ false
apart f a b e g = go (same_kind a b) (λ h. let w = ap f (is_kind a b h) in cc)
  where
    go : (c : Bool) → (c ≡ true → ⊥) → c ≡ false
    go true h = absurd (h refl)
    go false h = refl

pub sees_no : (f : TokenKind → Bool) (t : Lexeme) (ts : List Lexeme) (q : TokenKind) → f t.kind ≡ true → f q ≡ false → sees q (t ∷ ts) ≡ false
sees_no f t ts q e g = apart f t.kind q e g

pub sees_other : (t : Lexeme) (ts : List Lexeme) (q r : TokenKind) → t.kind ≡ r → same_kind r q ≡ false → sees q (t ∷ ts) ≡ false
sees_other t ts q r e f = ap (λ j. same_kind j q) e ∙ f

-- the tokens before a phrase
pub opened : (q : TokenKind) (ts : List Lexeme) → sees q ts ≡ true → (t : Lexeme) × (ts ≡ t ∷ next ts) × (t.kind ≡ q)
opened q [] h = absurd (cc)
opened q (t ∷ us) h = (t, refl, is_kind t.kind q h)

-- a token made up
unfoldable pub tok : TokenKind → Lexeme
tok q = record { kind = q; line = 0; spelling = [] }

pub tok_kind : (q : TokenKind) → (tok q).kind ≡ q
unfolding tok
tok_kind q = refl
