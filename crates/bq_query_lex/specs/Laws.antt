-- What the tokens of a text are, in words of the text.
use Rattle.std.specs.Prelude.{ℕ, ◌+◌, ◌==◌, ◌≡◌, not, true, false, Bool, List, [], ◌∷◌, ◌++◌, length, Option, Some, nat_eq}
use Rattle.std.specs.List.{list_all, prefix_len}
use Rattle.std.specs.Map.{lookup}
use Rattle.bq_query_lex.specs.declared.token.QueryTokenKind.{QueryTokenKind}
use Rattle.bq_query_lex.specs.declared.token.QueryTokenKind.TheVariants as k
use Rattle.bq_query_lex.specs.declared.token.QueryToken.{QueryToken}
use Rattle.bq_query_lex.specs.Lexis.{is_blank, is_quote, is_word_byte, begins_word, punctuation, word_kind}
use Rattle.bq_query_lex.specs.Reading.{Reads}

-- a text is cut in one way alone
abbrev pub OneReading : List ℕ → Type 0
OneReading text = (r s : Option (List QueryToken)) → Reads text 0 r → Reads text 0 s → r ≡ s

-- the first byte may begin a word
abbrev pub first_begins : List ℕ → Bool
first_begins [] = false
first_begins (b ∷ bs) = begins_word b

-- these bytes, which those follow, are a token of this kind: a mark; all bytes between two quotes; or a word that can't be longer
pub data IsSpelled : QueryTokenKind → List ℕ → List ℕ → Type 0 where
  mark : {kind : QueryTokenKind} {b : ℕ} {word after : List ℕ} → lookup (nat_eq b) punctuation ≡ Some kind → word ≡ b ∷ [] → IsSpelled kind word after
  quoted : {q : ℕ} {word after : List ℕ} (body : List ℕ) → is_quote q ≡ true → list_all (λ b. not (b == q)) body ≡ true → word ≡ q ∷ (body ++ q ∷ []) → IsSpelled k.Quoted word after
  bare : {kind : QueryTokenKind} {word after : List ℕ} → first_begins word ≡ true → list_all is_word_byte word ≡ true → prefix_len is_word_byte after ≡ 0 → word_kind word ≡ Some kind → IsSpelled kind word after

-- the tokens of the text, which begins at the offset `start`, with blanks alone between them
pub data AreTokensOf : List ℕ → ℕ → List QueryToken → Type 0 where
  none : {text : List ℕ} {start : ℕ} → list_all is_blank text ≡ true → AreTokensOf text start []
  next : {text word after : List ℕ} {start : ℕ} {t : QueryToken} {ts : List QueryToken} (front : List ℕ) → text ≡ front ++ (word ++ after) → list_all is_blank front ≡ true → IsSpelled t.kind word after
      → t.start ≡ start + length front → t.end ≡ t.start + length word → AreTokensOf after t.end ts → AreTokensOf text start (t ∷ ts)
