-- Frequent pieces are known by their first byte.
use Rattle.std.proofs.Common.{◌≡◌, ℕ, ◌+◌, ◌<◌, inl, inr, List, [], ◌∷◌, take, drop, true, false, Some, codes, refl, ap, sym, subst, ◌∙◌, arith}
use Rattle.std.specs.Prelude.{◌==◌}
use Rattle.std.specs.List.{prefix_len}
use Rattle.std.proofs.lemmas.Bool.{eqb-true}
use Rattle.bq_source.specs.declared.lexis.RunClass.TheVariants.{Blank, Word}
use Rattle.bq_source.specs.declared.operators.Lexeme.{Lexeme}
use Rattle.bq_source.specs.declared.operators.Lexeme.TheVariants.{Plain, Opens, Closes}
use Rattle.bq_source.specs.declared.piece.Piece.TheVariants.{Gap, LineEnd, Lexed}
use Rattle.bq_source.specs.declared.token.TokenKind.{TokenKind}
use Rattle.bq_source.specs.declared.token.TokenKind.TheVariants as k
use Rattle.bq_source.specs.Lexis.{has, is_blank, is_letter, word_kind}
use Rattle.bq_source.specs.Operators.{operator}
use Rattle.bq_source.specs.StringLiteral.{opening, begins, begins_pair, is_plain, is_quote}
use Rattle.bq_source.specs.Piece.{bytes, word, mark, next_piece}
use Rattle.bq_source.proofs.Cases.{mark_by}
use Rattle.bq_source.proofs.Fitting.{plain_piece}
use Rattle.bq_source.proofs.OneLine.{plain_string}
use Rattle.bq_base.proofs.Choices.{by_bool}

one_quote : (after : List ℕ) → 0 < prefix_len (is_plain 34) after → begins_pair 34 after ≡ false
one_quote [] some = refl
one_quote (b ∷ bs) some = elim (by_bool (b == 34)) [
  | inl t ↦ let e = eqb-true b 34 t in let none : 0 < prefix_len (is_plain 34) (34 ∷ bs) = rw e at some in absurd (omega arith)
  | inr t ↦ rw t refl
]

-- a literal whose bytes up to the next quote stand for themselves
pub string_piece : (text after rest : List ℕ) (len : ℕ) → text ≡ 34 ∷ after → len ≡ prefix_len (is_plain 34) after → 0 < len
    → drop len after ≡ 34 ∷ rest → Lexed (Plain k.String) (bytes (len + 2)) ≡ next_piece text
unfolding next_piece opening
string_piece text after rest len same run some next =
    let single = one_quote after (rw run at some) in
    plain_piece text (len + 2) (plain_string text after rest len same single run next) ∙ (rw same refl)

not_blank : (b : ℕ) → is_letter b ≡ true → is_blank b ≡ false
not_blank b h = elim (by_bool (b == 32)) [
  | inl t ↦ let e = eqb-true b 32 t in let never : is_letter 32 ≡ true = rw e at h in cc
  | inr t ↦ elim (by_bool (b == 9)) [
    | inl u ↦ let e = eqb-true b 9 u in let never : is_letter 9 ≡ true = rw e at h in cc
    | inr u ↦ rw (t, u) refl
  ]
]

not_quote : (b : ℕ) → is_letter b ≡ true → is_quote b ≡ false
not_quote b h = elim (by_bool (b == 34)) [
  | inl t ↦ let e = eqb-true b 34 t in let never : is_letter 34 ≡ true = rw e at h in cc
  | inr t ↦ elim (by_bool (b == 39)) [
    | inl u ↦ let e = eqb-true b 39 u in let never : is_letter 39 ≡ true = rw e at h in cc
    | inr u ↦ rw (t, u) refl
  ]
]

-- a word, which no `r` begins, as it may a string
pub word_piece : (text bs : List ℕ) (b n : ℕ) (kind : TokenKind) → text ≡ b ∷ bs → is_letter b ≡ true → (b == 114) ≡ false → n ≡ prefix_len (has Word) text
    → kind ≡ word_kind (take n text) → Lexed (Plain kind) (bytes n) ≡ next_piece text
unfolding next_piece opening word
word_piece text bs b n kind same letter other run is =
    let blank = not_blank b letter in
    let quote = not_quote b letter in
    let of_word : Lexed (Plain kind) (bytes n) ≡ word text = rw (is, run) refl in
    of_word ∙ (rw (same, other, blank, quote, letter) refl)

pub space_piece : (text bs : List ℕ) (n : ℕ) → text ≡ 32 ∷ bs → n ≡ prefix_len (has Blank) text → Gap (bytes n) ≡ next_piece text
unfolding next_piece
space_piece text bs n same run = rw (run, same) refl

pub line_piece : (text bs : List ℕ) → text ≡ 10 ∷ bs → LineEnd (record { len = 1; lines = 1 }) ≡ next_piece text
unfolding next_piece opening
line_piece text bs same = rw same refl

-- a mark that no longer one begins with
abbrev pub IsMark : Lexeme → ℕ → Type 0
IsMark lexeme b = (text bs : List ℕ) → text ≡ b ∷ bs → Lexed lexeme (bytes 1) ≡ next_piece text

pub comma_piece : IsMark (Plain k.Comma) 44
unfolding next_piece opening mark operator
comma_piece text bs same = rw same refl

pub left_paren_piece : IsMark (Opens k.LeftParen k.RightParen) 40
unfolding next_piece opening mark operator
left_paren_piece text bs same = rw same refl

pub right_paren_piece : IsMark (Closes k.RightParen) 41
unfolding next_piece opening mark operator
right_paren_piece text bs same = rw same refl

pub left_bracket_piece : IsMark (Opens k.LeftBracket k.RightBracket) 91
unfolding next_piece opening mark operator
left_bracket_piece text bs same = rw same refl

pub right_bracket_piece : IsMark (Closes k.RightBracket) 93
unfolding next_piece opening mark operator
right_bracket_piece text bs same = rw same refl

other_behind : (b : ℕ) (bs : List ℕ) → begins 61 (b ∷ bs) ≡ false → (61 == b) ≡ false
other_behind b bs h = elim (by_bool (61 == b)) [
  | inl t ↦ let e = eqb-true 61 b t in let never : begins 61 (61 ∷ bs) ≡ false = subst (λ x. begins 61 (x ∷ bs) ≡ false) (sym e) h in cc
  | inr t ↦ t
]

assign_found : (b : ℕ) (bs : List ℕ) → (61 == b) ≡ false → operator (61 ∷ b ∷ bs) ≡ Some (codes "=", Plain k.Assign)
unfolding operator
assign_found b bs differs = rw differs refl

pub assign_piece : (text bs : List ℕ) → text ≡ 61 ∷ bs → begins 61 bs ≡ false → Lexed (Plain k.Assign) (bytes 1) ≡ next_piece text
unfolding next_piece opening mark operator
assign_piece text [] same other = rw same refl
assign_piece text (b ∷ bs) same other = rw same (ap mark_by (sym (assign_found b bs (other_behind b bs other))))
