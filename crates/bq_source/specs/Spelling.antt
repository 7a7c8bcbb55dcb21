-- How each piece of a text is spelled, in words of its bytes and of those that come after it. `tokens_cut_the_text` says that
-- the readings of a text are made of these pieces.
use Rattle.std.specs.Prelude.{ℕ, ◌<◌, ◌≤◌, ◌≡◌, ◌⊎◌, List, [], ◌∷◌, ◌++◌, length, take, Bool, true, false, ◌==◌, ◌||◌, nat_eq, Some, None, IsSome, slice_range}
use Rattle.std.specs.List.{AllByRecursion, starts_with}
use Rattle.bq_source.specs.declared.token.Token.{Token}
use Rattle.bq_source.specs.declared.token.TokenKind.TheVariants as k
use Rattle.bq_base.specs.declared.fault.TokenFault.{TokenFault}
use Rattle.bq_base.specs.declared.fault.TokenFault.TheVariants as f
use Rattle.bq_source.specs.declared.operators.Lexeme.{Lexeme}
use Rattle.bq_source.specs.declared.operators.Lexeme.TheVariants.{Plain}
use Rattle.bq_source.specs.declared.string_literal.StringLiteral.{StringLiteral}
use Rattle.bq_source.specs.Lexis.{is_letter, is_word, newlines, word_kind}
use Rattle.bq_source.specs.Operators.{operators}
use Rattle.bq_source.specs.Number.{begins_number, is_number_byte, int_value}
use Rattle.bq_source.specs.StringLiteral.{begins_string, scan_string, string_value}

-- there is a first byte, and it passes the test
abbrev pub Begins : (ℕ → Bool) → List ℕ → Type 0
Begins p [] = ⊥
Begins p (b ∷ bs) = p b ≡ true

-- there is no first byte, or it fails the test
abbrev pub BeginsNot : (ℕ → Bool) → List ℕ → Type 0
BeginsNot p [] = Unit {0}
BeginsNot p (b ∷ bs) = p b ≡ false

-- the longest run of such bytes, which is not empty
pub record IsRun (p : ℕ → Bool) (bs rest : List ℕ) : Type 0 where
  pub some : 0 < length bs
  pub all : AllByRecursion (λ b. p b ≡ true) bs
  pub longest : BeginsNot p rest

-- a newline, or a carriage return with a newline
pub data IsLineEnd : List ℕ → Type 0 where
  lf : IsLineEnd (10 ∷ [])
  cr_lf : IsLineEnd (13 ∷ 10 ∷ [])

-- the text begins with a newline, or with a carriage return and a newline
abbrev pub BeginsLineEnd : List ℕ → Type 0
BeginsLineEnd text = (end : List ℕ) × (rest : List ℕ) × (text ≡ end ++ rest) × IsLineEnd end

-- these bytes go on up to the end of the line
pub data IsLineRest : List ℕ → List ℕ → Type 0 where
  at_end : IsLineRest [] []
  at_line_end : {rest : List ℕ} → BeginsLineEnd rest → IsLineRest [] rest
  further : {bs rest : List ℕ} (b : ℕ) → (BeginsLineEnd (b ∷ bs ++ rest) → ⊥) → IsLineRest bs rest → IsLineRest (b ∷ bs) rest

-- between tokens: spaces and tabs, a comment, or the joint of two lines
pub data IsGap (bs rest : List ℕ) : Type 0 where
  blank : IsRun (λ b. b == 32 || b == 9) bs rest → IsGap bs rest
  comment : (body : List ℕ) → bs ≡ 35 ∷ body → IsLineRest body rest → IsGap bs rest
  joint : (end : List ℕ) → bs ≡ 92 ∷ end → IsLineEnd end → IsGap bs rest

-- the whole of a word, which is no prefix of a string
pub record IsWord (bs rest : List ℕ) : Type 0 where
  pub first : Begins is_letter bs
  pub run : IsRun is_word bs rest
  pub no_string : begins_string (bs ++ rest) ≡ false

-- all that looks like a number
pub record IsNumber (bs rest : List ℕ) : Type 0 where
  pub begins : begins_number (bs ++ rest) ≡ true
  pub run : IsRun is_number_byte bs rest

-- a line of the table of operators
abbrev pub IsListed : Lexeme → List ℕ → List (List ℕ × Lexeme) → Type 0
IsListed lexeme bs [] = ⊥
IsListed lexeme bs (e ∷ es) = (e ≡ (bs, lexeme)) ⊎ IsListed lexeme bs es

-- no spelling of these that the text begins with is longer
abbrev pub NoneLonger : List ℕ → ℕ → List (List ℕ × Lexeme) → Type 0
NoneLonger text n [] = Unit {0}
NoneLonger text n (e ∷ es) = (starts_with nat_eq text e.0 ≡ true → length e.0 ≤ n) × NoneLonger text n es

-- the text begins with the spelling of none of these lexemes
abbrev pub NoneBegins : List ℕ → List (List ℕ × Lexeme) → Type 0
NoneBegins text [] = Unit {0}
NoneBegins text (e ∷ es) = (starts_with nat_eq text e.0 ≡ false) × NoneBegins text es

-- of the operators that the text begins with, the longest; a dot before a digit is not one
pub record IsOperator (lexeme : Lexeme) (bs rest : List ℕ) : Type 0 where
  pub listed : IsListed lexeme bs operators
  pub longest : NoneLonger (bs ++ rest) (length bs) operators
  pub no_number : begins_number (bs ++ rest) ≡ false

-- these bytes, with the rest of the text after them, are a token
pub data IsSpelled (lexeme : Lexeme) (bs rest : List ℕ) : Type 0 where
  word : lexeme ≡ Plain (word_kind bs) → IsWord bs rest → IsSpelled lexeme bs rest
  number : (n : ℕ) → lexeme ≡ Plain k.Int → IsNumber bs rest → int_value bs ≡ Some n → IsSpelled lexeme bs rest
  string : lexeme ≡ Plain k.String → scan_string (bs ++ rest) ≡ Some (record { len = length bs; bad_escape = None }) → IsSpelled lexeme bs rest
  operator : IsOperator lexeme bs rest → IsSpelled lexeme bs rest

-- a byte that begins no piece
pub record BeginsNothing (text : List ℕ) : Type 0 where
  pub no_blank : BeginsNot (λ b. b == 32 || b == 9) text
  pub no_letter : BeginsNot is_letter text
  pub no_comment : BeginsNot (λ b. b == 35) text
  pub no_string : begins_string text ≡ false
  pub no_number : begins_number text ≡ false
  pub no_operator : NoneBegins text operators
  pub no_line_end : BeginsLineEnd text → ⊥
  pub no_joint : (rest : List ℕ) → text ≡ 92 ∷ rest → BeginsLineEnd rest → ⊥

-- what is no piece, with how many lines further on its fault is
pub data IsMisspelled (text : List ℕ) : TokenFault → ℕ → Type 0 where
  bad_byte : 0 < length text → BeginsNothing text → IsMisspelled text f.BadByte 0
  bad_int : (bs rest : List ℕ) → text ≡ bs ++ rest → IsNumber bs rest → int_value bs ≡ None → IsMisspelled text f.BadInt 0
  open_string : begins_string text ≡ true → scan_string text ≡ None → IsMisspelled text f.OpenString 0
  bad_escape : (literal : StringLiteral) (at : ℕ) → scan_string text ≡ Some literal → literal.bad_escape ≡ Some at
      → IsMisspelled text f.Escape (newlines (take at text))

-- what is no gap and no line end: a token, or what is none
pub data IsNoGap (text : List ℕ) : Type 0 where
  spelled : (lexeme : Lexeme) (bs rest : List ℕ) → text ≡ bs ++ rest → IsSpelled lexeme bs rest → IsNoGap text
  misspelled : (kind : TokenFault) (lines : ℕ) → IsMisspelled text kind lines → IsNoGap text

-- A token lies in the text, and a string literal has a value.
pub record Lies (text : List ℕ) (t : Token) : Type 0 where
  pub ascends : t.start ≤ t.end
  pub within : t.end ≤ length text
  pub quoted : t.kind ≡ k.String → IsSome (string_value (slice_range text t.start t.end))
