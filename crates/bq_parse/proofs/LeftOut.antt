-- What is looked for among the tokens, a token at a time.
use Rattle.std.proofs.Common.{◌≡◌, ◌-◌, Bool, true, false, ◌&&◌, ◌||◌, List, [], ◌∷◌, length, Some, None, refl, ap, sym, ◌∙◌, arith}
use Rattle.bq_source.specs.declared.token.TokenKind.{TokenKind}
use Rattle.bq_source.specs.declared.token.TokenKind.TheVariants as k
use Rattle.bq_source.specs.Token.{same_kind}
use Rattle.bq_parse_grammar.specs.Lexeme.{Lexeme}
use Rattle.bq_parse_grammar.specs.Turns.{sees, next}
use Rattle.bq_parse_grammar.specs.LeftOut.{calls_name, calls_method, kinds, leaves_out_by, leaves_out, is_compound, is_starred, has_starred}
use Rattle.bq_parse_grammar.specs.Tokens.{kind_ahead}
use Rattle.bq_parse.specs.LeftOut.{leaves_out_of, leaves_out_next}
use Rattle.bq_parse.proofs.Ahead.{same_kind_ahead}

and_false : (b : Bool) → (b && false) ≡ false
and_false true = refl
and_false false = refl

-- ---- calls

name_by : (q r : TokenKind) (ks : List TokenKind) → calls_name (q ∷ r ∷ ks) ≡ (same_kind q k.Identifier && same_kind r k.LeftParen)
unfolding same_kind
name_by k.Identifier k.LeftParen ks = refl
name_by k.Identifier _ ks = refl
name_by _ r ks = refl

name_alone : (q : TokenKind) → calls_name (q ∷ []) ≡ false
name_alone k.Identifier = refl
name_alone _ = refl

pub name_called : (ts : List Lexeme) → calls_name (kinds ts) ≡ (sees k.Identifier ts && sees k.LeftParen (next ts))
name_called [] = refl
name_called (t ∷ []) = name_alone t.kind ∙ sym (and_false (same_kind t.kind k.Identifier))
name_called (t ∷ u ∷ us) = name_by t.kind u.kind (kinds us)

method_by : (q : TokenKind) (ks : List TokenKind) → calls_method (q ∷ ks) ≡ (same_kind q k.Dot && calls_name ks)
unfolding same_kind
method_by k.Dot [] = refl
method_by k.Dot (k.Identifier ∷ []) = refl
method_by k.Dot (k.Identifier ∷ k.LeftParen ∷ ks) = refl
method_by k.Dot (k.Identifier ∷ _ ∷ ks) = refl
method_by k.Dot (_ ∷ ks) = refl
method_by _ ks = refl

pub method_called : (ts : List Lexeme) → calls_method (kinds ts) ≡ (sees k.Dot ts && calls_name (kinds (next ts)))
method_called [] = refl
method_called (t ∷ ts) = method_by t.kind (kinds ts)

-- ---- left out

of_kind : (q : TokenKind) (t : Lexeme) (ts : List Lexeme) → leaves_out_by q t ts ≡ leaves_out_of q (t ∷ ts)
of_kind k.Lambda t ts = refl
of_kind k.Slash t ts = refl
of_kind k.SlashAssign t ts = refl
of_kind k.Dot t ts = refl
of_kind k.Identifier t ts = refl
of_kind _ t ts = refl

pub by_kind : (ts : List Lexeme) (q : TokenKind) → kind_ahead ts ≡ Some q → leaves_out_next ts ≡ leaves_out_of q ts
by_kind [] q e = absurd (cc)
by_kind (t ∷ ts) q e = ap (λ r. leaves_out_by r t ts) (same_kind_ahead t ts q e) ∙ of_kind q t ts

pub none_next : (ts : List Lexeme) → kind_ahead ts ≡ None → leaves_out_next ts ≡ false
none_next [] e = refl
none_next (t ∷ ts) e = absurd (cc)

pub leaves_out_on : (ts : List Lexeme) → leaves_out ts ≡ (leaves_out_next ts || leaves_out (next ts))
leaves_out_on [] = refl
leaves_out_on (t ∷ ts) = refl

pub leaves_out_over : (ts : List Lexeme) → length ts ≡ 0 → leaves_out ts ≡ false
leaves_out_over [] e = refl
leaves_out_over (t ∷ ts) e = let never : ⊥ = omega arith in absurd never

pub next_left : (ts : List Lexeme) → length (next ts) ≡ length ts - 1
next_left [] = refl
next_left (t ∷ ts) = omega arith

-- ---- not in a BUILD file

star_by : (q r : TokenKind) (ks : List TokenKind)
    → is_starred (q ∷ r ∷ ks) ≡ ((same_kind q k.LeftParen || same_kind q k.Comma) && (same_kind r k.Star || same_kind r k.StarStar))
unfolding same_kind
star_by k.LeftParen k.Star ks = refl
star_by k.LeftParen k.StarStar ks = refl
star_by k.LeftParen _ ks = refl
star_by k.Comma k.Star ks = refl
star_by k.Comma k.StarStar ks = refl
star_by k.Comma _ ks = refl
star_by _ r ks = refl

star_alone : (q : TokenKind) → is_starred (q ∷ []) ≡ false
star_alone k.LeftParen = refl
star_alone k.Comma = refl
star_alone _ = refl

pub star_begins : (ts : List Lexeme) → is_starred (kinds ts) ≡ ((sees k.LeftParen ts || sees k.Comma ts) && (sees k.Star (next ts) || sees k.StarStar (next ts)))
star_begins [] = refl
star_begins (t ∷ []) = star_alone t.kind ∙ sym (and_false (same_kind t.kind k.LeftParen || same_kind t.kind k.Comma))
star_begins (t ∷ u ∷ us) = star_by t.kind u.kind (kinds us)

pub starred_on : (ts : List Lexeme) → has_starred (kinds ts) ≡ (is_starred (kinds ts) || has_starred (kinds (next ts)))
starred_on [] = refl
starred_on (t ∷ ts) = refl

pub starred_over : (ts : List Lexeme) → length ts ≡ 0 → has_starred (kinds ts) ≡ false
starred_over [] e = refl
starred_over (t ∷ ts) e = let never : ⊥ = omega arith in absurd never

compound_kind : (q : TokenKind) (ks : List TokenKind) → is_compound (q ∷ ks) ≡ (same_kind q k.Def || (same_kind q k.If || same_kind q k.For))
unfolding same_kind
compound_kind k.Def ks = refl
compound_kind k.If ks = refl
compound_kind k.For ks = refl
compound_kind _ ks = refl

pub compound_by : (ts : List Lexeme) → is_compound (kinds ts) ≡ (sees k.Def ts || (sees k.If ts || sees k.For ts))
compound_by [] = refl
compound_by (t ∷ ts) = compound_kind t.kind (kinds ts)
