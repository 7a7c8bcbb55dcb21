-- Phrases, and the two repetitions of the grammar. A phrase of the tokens `ts` takes those before `rest`, and stands for a value.
use Rattle.std.specs.Prelude.{List, [], ◌∷◌, ◌≡◌}
use Rattle.bq_source.specs.declared.token.TokenKind.{TokenKind}
use Rattle.bq_source.specs.declared.token.TokenKind.TheVariants as k
use Rattle.bq_parse_grammar.specs.Lexeme.{Lexeme}

-- a production with trees in A: the tokens, those that are left behind the phrase, and its tree
abbrev pub Phrase : Type 0 → Type 1
Phrase A = List Lexeme → List Lexeme → A → Type 0

-- no phrase at all
abbrev pub none : {A : Type 0} → Phrase A
none ts rest x = ⊥

-- { X }
pub data Repeat {A : Type 0} (X : Phrase A) : List Lexeme → List Lexeme → List A → Type 0 where
  over : {ts : List Lexeme} → Repeat X ts ts []
  again : {ts mid rest : List Lexeme} {x : A} {xs : List A} → X ts mid x → Repeat X mid rest xs → Repeat X ts rest (x ∷ xs)

-- [ X { ',' X } [','] ] close
pub data Listed {A : Type 0} (close : TokenKind) (X : Phrase A) : List Lexeme → List Lexeme → List A → Type 0 where
  none_listed : {t : Lexeme} {rest : List Lexeme} → t.kind ≡ close → Listed close X (t ∷ rest) rest []
  last_listed : {t : Lexeme} {ts rest : List Lexeme} {x : A} → X ts (t ∷ rest) x → t.kind ≡ close → Listed close X ts rest (x ∷ [])
  more_listed : {t : Lexeme} {ts mid rest : List Lexeme} {x : A} {xs : List A}
      → X ts (t ∷ mid) x → t.kind ≡ k.Comma → Listed close X mid rest xs → Listed close X ts rest (x ∷ xs)

-- ',' X
pub data CommaThen {A : Type 0} (X : Phrase A) : List Lexeme → List Lexeme → A → Type 0 where
  comma_then : {t : Lexeme} {ts rest : List Lexeme} {x : A} → t.kind ≡ k.Comma → X ts rest x → CommaThen X (t ∷ ts) rest x
