-- Phrases, and the repetition of the grammar. A phrase of the tokens `ts` takes those before `rest`, and stands for a value.
use Rattle.std.specs.Prelude.{List, [], ◌∷◌, ◌≡◌}
use Rattle.bq_query_lex.specs.declared.token.QueryTokenKind.TheVariants as k
use Rattle.bq_query_parse.specs.Lexeme.{Lexeme}

-- a reading: between these tokens and what is left of them stands a phrase with this meaning
abbrev pub Phrase : Type 0 → Type 1
Phrase A = List Lexeme → List Lexeme → A → Type 0

-- no phrase at all
abbrev pub none : {A : Type 0} → Phrase A
none ts rest x = ⊥

-- { X }
pub data Repeat {A : Type 0} (X : Phrase A) : List Lexeme → List Lexeme → List A → Type 0 where
  over : {ts : List Lexeme} → Repeat X ts ts []
  again : {ts mid rest : List Lexeme} {x : A} {xs : List A} → X ts mid x → Repeat X mid rest xs → Repeat X ts rest (x ∷ xs)

-- ',' X
pub data CommaThen {A : Type 0} (X : Phrase A) : List Lexeme → List Lexeme → A → Type 0 where
  comma_then : {t : Lexeme} {ts rest : List Lexeme} {x : A} → t.kind ≡ k.Comma → X ts rest x → CommaThen X (t ∷ ts) rest x
