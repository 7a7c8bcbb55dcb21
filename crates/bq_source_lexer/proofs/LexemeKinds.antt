-- What kinds of tokens the rules make, and what they do to the brackets.
use Rattle.std.proofs.Common.{◌≡◌, ℕ, inl, inr, List, [], ◌∷◌, ◌++◌, length, Bool, true, false, Option, Some, None, refl, sym, ap, ◌∙◌, subst}
use Rattle.std.specs.Prelude.{◌&&◌, not}
use Rattle.std.specs.Map.{lookup}
use Rattle.std.specs.Str.{bytes_eq}
use Rattle.bq_source.specs.declared.token.TokenKind.{TokenKind}
use Rattle.bq_source.specs.declared.token.TokenKind.TheVariants as k
use Rattle.bq_source_lexer.specs.declared.place.OpenBracket.{OpenBracket}
use Rattle.bq_source.specs.declared.operators.Lexeme.{Lexeme}
use Rattle.bq_source.specs.declared.operators.Lexeme.TheVariants.{Plain, Opens, Closes}
use Rattle.bq_source.specs.Token.{same_kind}
use Rattle.bq_source.specs.Lexis.{keywords, is_reserved, word_kind}
use Rattle.bq_source.proofs.Cases.{word_kind_by, other_word}
use Rattle.bq_source.specs.Operators.{operators, kind_of}
use Rattle.bq_source.specs.StringLiteral.{scan_string}
use Rattle.bq_source.specs.Spelling.{IsListed, IsSpelled, word, number, string, operator}
use Rattle.bq_source_lexer.specs.Layout.{closed_by, opened_by}
use Rattle.bq_base.proofs.Choices.{by_test, left_of, right_of}

-- ---- which kinds they are not

abbrev avoids : TokenKind → List (List ℕ × Lexeme) → Bool
avoids kind [] = true
avoids kind (e ∷ es) = not (same_kind (kind_of e.1) kind) && avoids kind es

abbrev words_avoid : TokenKind → List (List ℕ × TokenKind) → Bool
words_avoid kind [] = true
words_avoid kind (p ∷ ps) = not (same_kind p.1 kind) && words_avoid kind ps

not_true : (b : Bool) → not b ≡ true → b ≡ false
not_true true h = cc
not_true false h = refl

listed_avoids : (kind : TokenKind) (lexeme : Lexeme) (bs : List ℕ) (table : List (List ℕ × Lexeme)) → avoids kind table ≡ true → IsListed lexeme bs table
    → same_kind (kind_of lexeme) kind ≡ false
listed_avoids kind lexeme bs [] h i = absurd i
listed_avoids kind lexeme bs (e ∷ es) h (inl same) =
    let P : Lexeme → Type 0 = λ l. same_kind (kind_of l) kind ≡ false in
    subst P (ap (λ p. p.1) same) (not_true (same_kind (kind_of e.1) kind) (left_of (not (same_kind (kind_of e.1) kind)) (avoids kind es) h))
listed_avoids kind lexeme bs (e ∷ es) h (inr i) = listed_avoids kind lexeme bs es (right_of (not (same_kind (kind_of e.1) kind)) (avoids kind es) h) i

found_avoids : (kind : TokenKind) (w : List ℕ) (ps : List (List ℕ × TokenKind)) → words_avoid kind ps ≡ true → same_kind (word_kind_by None w) kind ≡ false
    → same_kind (word_kind_by (lookup (bytes_eq w) ps) w) kind ≡ false
found_avoids kind w [] h g = g
found_avoids kind w (p ∷ ps) h g =
    by_test (λ (o : Option TokenKind). same_kind (word_kind_by o w) kind ≡ false) (bytes_eq w p.0) _ _
    (λ _. not_true (same_kind p.1 kind) (left_of (not (same_kind p.1 kind)) (words_avoid kind ps) h))
    (λ _. found_avoids kind w ps (right_of (not (same_kind p.1 kind)) (words_avoid kind ps) h) g)

other_avoids : (b : Bool) → (same_kind (other_word b) k.Newline ≡ false) × (same_kind (other_word b) k.String ≡ false)
unfolding same_kind
other_avoids true = (refl, refl)
other_avoids false = (refl, refl)

known : (words_avoid k.Newline keywords ≡ true) × (words_avoid k.String keywords ≡ true) × (avoids k.Newline operators ≡ true) × (avoids k.String operators ≡ true)
    × (same_kind k.Int k.Newline ≡ false) × (same_kind k.Int k.String ≡ false) × (same_kind k.String k.Newline ≡ false) × (same_kind k.String k.String ≡ true)
unfolding same_kind
known = (refl, refl, refl, refl, refl, refl, refl, refl)

word_avoids : (w : List ℕ) → (same_kind (word_kind w) k.Newline ≡ false) × (same_kind (word_kind w) k.String ≡ false)
unfolding word_kind
word_avoids w =
    let other = other_avoids (is_reserved w) in
    (found_avoids k.Newline w keywords known.0 other.0, found_avoids k.String w keywords known.1 other.1)

pub no_newline : (lexeme : Lexeme) (bs rest : List ℕ) → IsSpelled lexeme bs rest → same_kind (kind_of lexeme) k.Newline ≡ false
no_newline lexeme bs rest (word is h) = subst (λ (l : Lexeme). same_kind (kind_of l) k.Newline ≡ false) (sym is) (word_avoids bs).0
no_newline lexeme bs rest (number n is h v) = subst (λ (l : Lexeme). same_kind (kind_of l) k.Newline ≡ false) (sym is) known.4
no_newline lexeme bs rest (string is h) = subst (λ (l : Lexeme). same_kind (kind_of l) k.Newline ≡ false) (sym is) known.6
no_newline lexeme bs rest (operator h) = listed_avoids k.Newline lexeme bs operators known.2 h.listed

-- only string literals are of the kind of strings
pub data StringOrNot (lexeme : Lexeme) (bs rest : List ℕ) : Type 0 where
  is_string : scan_string (bs ++ rest) ≡ Some (record { len = length bs; bad_escape = None }) → StringOrNot lexeme bs rest
  is_none : (kind_of lexeme ≡ k.String → ⊥) → StringOrNot lexeme bs rest

differs : (kind : TokenKind) → same_kind kind k.String ≡ false → kind ≡ k.String → ⊥
differs kind other same = let P : TokenKind → Type 0 = λ x. same_kind x k.String ≡ false in let never : true ≡ false = sym known.7 ∙ subst P same other in cc

pub string_or_not : (lexeme : Lexeme) (bs rest : List ℕ) → IsSpelled lexeme bs rest → StringOrNot lexeme bs rest
string_or_not lexeme bs rest (word is h) = is_none (differs _ (subst (λ (l : Lexeme). same_kind (kind_of l) k.String ≡ false) (sym is) (word_avoids bs).1))
string_or_not lexeme bs rest (number n is h v) = is_none (differs _ (subst (λ (l : Lexeme). same_kind (kind_of l) k.String ≡ false) (sym is) known.5))
string_or_not lexeme bs rest (string is h) = is_string h
string_or_not lexeme bs rest (operator h) = is_none (differs _ (listed_avoids k.String lexeme bs operators known.3 h.listed))

-- ---- what they do to the brackets

abbrev pub nested : Lexeme → ℕ → List OpenBracket → Option (List OpenBracket)
nested (Plain kind) line os = Some os
nested (Opens kind closing) line os = Some (record { closing = closing; line = line } ∷ os)
nested (Closes kind) line os = closed_by os kind

abbrev pub Nests : Lexeme → Type 0
Nests lexeme = (line : ℕ) (os : List OpenBracket) → opened_by (kind_of lexeme) line os ≡ nested lexeme line os

abbrev AllNest : List (List ℕ × Lexeme) → Type 0
AllNest [] = Unit {0}
AllNest (e ∷ es) = Nests e.1 × AllNest es

operators_nest : AllNest operators
operators_nest = ((λ line os. refl), ((λ line os. refl), ((λ line os. refl), ((λ line os. refl), ((λ line os. refl), ((λ line os. refl), ((λ line os. refl), ((λ line os. refl), ((λ line os. refl), ((λ line os. refl), ((λ line os. refl), ((λ line os. refl), ((λ line os. refl), ((λ line os. refl), ((λ line os. refl), ((λ line os. refl), ((λ line os. refl), ((λ line os. refl), ((λ line os. refl), ((λ line os. refl), ((λ line os. refl), ((λ line os. refl), ((λ line os. refl), ((λ line os. refl), ((λ line os. refl), ((λ line os. refl), ((λ line os. refl), ((λ line os. refl), ((λ line os. refl), ((λ line os. refl), ((λ line os. refl), ((λ line os. refl), ((λ line os. refl), ((λ line os. refl), ((λ line os. refl), ((λ line os. refl), ((λ line os. refl), ((λ line os. refl), ((λ line os. refl), ((λ line os. refl), ((λ line os. refl), tt)))))))))))))))))))))))))))))))))))))))))

listed_nests : (lexeme : Lexeme) (bs : List ℕ) (table : List (List ℕ × Lexeme)) → AllNest table → IsListed lexeme bs table → Nests lexeme
listed_nests lexeme bs [] all i = absurd i
listed_nests lexeme bs (e ∷ es) all (inl same) = subst Nests (ap (λ p. p.1) same) all.0
listed_nests lexeme bs (e ∷ es) all (inr i) = listed_nests lexeme bs es all.1 i

abbrev AllWords : List (List ℕ × TokenKind) → Type 0
AllWords [] = Unit {0}
AllWords (p ∷ ps) = Nests (Plain p.1) × AllWords ps

found_nests : (w : List ℕ) (ps : List (List ℕ × TokenKind)) → AllWords ps → Nests (Plain (word_kind_by None w)) → Nests (Plain (word_kind_by (lookup (bytes_eq w) ps) w))
found_nests w [] all g = g
found_nests w (p ∷ ps) all g = by_test (λ (o : Option TokenKind). Nests (Plain (word_kind_by o w))) (bytes_eq w p.0) _ _ (λ _. all.0) (λ _. found_nests w ps all.1 g)

other_nests : (b : Bool) → Nests (Plain (other_word b))
other_nests true = λ line os. refl
other_nests false = λ line os. refl

word_nests : (w : List ℕ) → Nests (Plain (word_kind w))
unfolding word_kind
word_nests w = found_nests w keywords ((λ line os. refl), ((λ line os. refl), ((λ line os. refl), ((λ line os. refl), ((λ line os. refl), ((λ line os. refl), ((λ line os. refl), ((λ line os. refl), ((λ line os. refl), ((λ line os. refl), ((λ line os. refl), ((λ line os. refl), ((λ line os. refl), ((λ line os. refl), ((λ line os. refl), tt))))))))))))))) (other_nests (is_reserved w))

pub nests : (lexeme : Lexeme) (bs rest : List ℕ) → IsSpelled lexeme bs rest → Nests lexeme
nests lexeme bs rest (word is h) = subst Nests (sym is) (word_nests bs)
nests lexeme bs rest (number n is h v) = subst Nests (sym is) (λ line os. refl)
nests lexeme bs rest (string is h) = subst Nests (sym is) (λ line os. refl)
nests lexeme bs rest (operator h) = listed_nests lexeme bs operators operators_nest h.listed
