-- The first statement of a file, and the further ones.
use Rattle.std.proofs.Common.{◌≡◌, ℕ, zero, suc, ◌+◌, ◌<◌, Bool, true, false, ◌&&◌, cond, if◌then◌else◌, List, [], ◌∷◌, length, take, drop, Some, refl, ap, ◌∙◌, arith}
use Rattle.bq_source.specs.declared.token.TokenKind.{TokenKind}
use Rattle.bq_parse_grammar.specs.Lexeme.{Lexeme}
use Rattle.bq_parse_grammar.specs.Turns.{next}
use Rattle.bq_parse_grammar.specs.Pieces.{ends_line, indents_after, begins_statement, is_zero, onto, cut, pieces}
use Rattle.bq_parse_grammar.specs.Tokens.{kind_ahead}
use Rattle.bq_parse.specs.Pieces.{piece_len, rest_len}
use Rattle.bq_parse.proofs.Ahead.{same_kind_ahead}

-- ---- a step of the loop

pub none_open : (n : ℕ) → n ≡ 0 → is_zero n ≡ true
none_open zero e = refl
none_open (suc n) e = absurd (cc)

pub some_open : (n : ℕ) → 0 < n → is_zero n ≡ false
some_open zero e = let never : ⊥ = omega arith in absurd never
some_open (suc n) e = refl

abbrev len_by : Bool → ℕ → List Lexeme → TokenKind → ℕ
len_by line n ts q = if line && (is_zero n && begins_statement q) then 0 else suc (rest_len (ends_line q) (indents_after q n) ts)

pub rest_len_ahead : (line : Bool) (n : ℕ) (ts : List Lexeme) (q : TokenKind) → kind_ahead ts ≡ Some q → rest_len line n ts ≡ len_by line n (next ts) q
unfolding rest_len
rest_len_ahead line n [] q e = absurd (cc)
rest_len_ahead line n (t ∷ ts) q e = ap (len_by line n ts) (same_kind_ahead t ts q e)

pub rest_len_over : (line : Bool) (n : ℕ) (ts : List Lexeme) → length ts ≡ 0 → rest_len line n ts ≡ 0
unfolding rest_len
rest_len_over line n [] e = refl
rest_len_over line n (t ∷ ts) e = let never : ⊥ = omega arith in absurd never

-- where the loop is: how many of all tokens are passed
module _ (line : Bool) (n : ℕ) (ts : List Lexeme) (q : TokenKind) (next_is : kind_ahead ts ≡ Some q) (passed all : ℕ) (same : all ≡ passed + rest_len line n ts) where
  abbrev len_if : Bool → ℕ
  len_if b = if b then 0 else suc (rest_len (ends_line q) (indents_after q n) (next ts))

  pub begins_here : (line && (is_zero n && begins_statement q)) ≡ true → passed ≡ all
  begins_here b = let none : rest_len line n ts ≡ 0 = rest_len_ahead line n ts q next_is ∙ ap len_if b in omega (arith, same, none)

  pub goes_on : (line && (is_zero n && begins_statement q)) ≡ false → all ≡ passed + 1 + rest_len (ends_line q) (indents_after q n) (next ts)
  goes_on b =
      let more : rest_len line n ts ≡ suc (rest_len (ends_line q) (indents_after q n) (next ts)) = rest_len_ahead line n ts q next_is ∙ ap len_if b in
      omega (arith, same, more)

-- ---- what is cut off

-- the first tokens, and what the others are cut into
abbrev parted : ℕ → List Lexeme → List (List Lexeme)
parted n ts = take n ts ∷ pieces (drop n ts)

-- Where a statement begins, it is cut as a file is: at its first token it makes no difference whether a line may begin.
begun : (n : ℕ) (t : Lexeme) (ts : List Lexeme) → is_zero n ≡ true → onto t (cut (ends_line t.kind) (indents_after t.kind n) ts) ≡ pieces (t ∷ ts)
begun zero t ts e = refl
begun (suc n) t ts e = absurd (cc)

zero_of : (a b c : Bool) → (a && (b && c)) ≡ true → b ≡ true
zero_of true true c e = refl
zero_of true false c e = absurd (cc)
zero_of false b c e = absurd (cc)

onto_parted : (t : Lexeme) (ts : List Lexeme) (n : ℕ) (ps : List (List Lexeme)) → ps ≡ parted n ts → onto t ps ≡ parted (suc n) (t ∷ ts)
onto_parted t ts n ps e = ap (onto t) e

cut_by : (t : Lexeme) (ts : List Lexeme) (m : ℕ) (b : Bool) (ps : List (List Lexeme)) (more : ℕ)
    → (b ≡ true → onto t ps ≡ pieces (t ∷ ts)) → ps ≡ parted more ts
    → cond b ([] ∷ onto t ps) (onto t ps) ≡ parted (cond b 0 (suc more)) (t ∷ ts)
cut_by t ts m true ps more h e = ap (λ qs. [] ∷ qs) (h refl)
cut_by t ts m false ps more h e = onto_parted t ts more ps e

cut_first : (line : Bool) (n : ℕ) (ts : List Lexeme) → cut line n ts ≡ parted (rest_len line n ts) ts
unfolding rest_len
cut_first line n [] = refl
cut_first line n (t ∷ ts) =
    cut_by t ts n (line && (is_zero n && begins_statement t.kind)) (cut (ends_line t.kind) (indents_after t.kind n) ts) (rest_len (ends_line t.kind) (indents_after t.kind n) ts)
    (λ e. begun n t ts (zero_of line (is_zero n) (begins_statement t.kind) e)) (cut_first (ends_line t.kind) (indents_after t.kind n) ts)

pub first_piece : (ts : List Lexeme) → 0 < length ts → pieces ts ≡ take (piece_len ts) ts ∷ pieces (drop (piece_len ts) ts)
first_piece [] h = let never : ⊥ = omega arith in absurd never
first_piece (t ∷ ts) h = cut_first false 0 (t ∷ ts)

-- the first statement has a token
pub some_taken : (ts : List Lexeme) → 0 < length ts → 0 < piece_len ts
unfolding rest_len
some_taken [] h = h
some_taken (t ∷ ts) h = omega arith
