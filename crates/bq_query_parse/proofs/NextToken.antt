-- Kinds of tokens, and the next token.
use Rattle.std.proofs.Common.{◌≡◌, Bool, true, false, List, ◌∷◌, refl, ap, ◌∙◌, rules}
use denote.Enum.Bare.{same_true, true_same}
use Rattle.bq_query_lex.specs.contracts.token.QueryTokenKind.{the_type}
use Rattle.bq_query_lex.specs.declared.token.QueryTokenKind.{QueryTokenKind}
use Rattle.bq_query_parse.specs.Lexeme.{Lexeme, same_kind}
use Rattle.bq_query_parse.specs.Turns.{sees}

pub is_kind : (a b : QueryTokenKind) → same_kind a b ≡ true → a ≡ b
unfolding same_kind
is_kind a b e = same_true the_type (search rules) a b e

pub kind_is : (a b : QueryTokenKind) → a ≡ b → same_kind a b ≡ true
unfolding same_kind
kind_is a b e = true_same the_type a b e

pub sees_it : (t : Lexeme) (ts : List Lexeme) (q : QueryTokenKind) → t.kind ≡ q → sees q (t ∷ ts) ≡ true
sees_it t ts q e = kind_is t.kind q e

-- kinds that a test tells apart
pub apart : (f : QueryTokenKind → Bool) (a b : QueryTokenKind) → f a ≡ true → f b ≡ false → same_kind a b ≡ false
apart f a b e g = go (same_kind a b) (λ h. let w = ap f (is_kind a b h) in cc)
  where
    go : (c : Bool) → (c ≡ true → ⊥) → c ≡ false
    go true h = absurd (h refl)
    go false h = refl

pub sees_other : (f : QueryTokenKind → Bool) (t : Lexeme) (ts : List Lexeme) (q r : QueryTokenKind) → t.kind ≡ r → f r ≡ true → f q ≡ false → sees q (t ∷ ts) ≡ false
sees_other f t ts q r e g h = apart f t.kind q (ap f e ∙ g) h
