-- What the reader and the grammar have to do with each other.
use Rattle.std.specs.Prelude.{ℕ, suc, List, [], ◌∷◌, Bool, true, false, ◌≡◌, Some}
use Rattle.bq_query_lex.specs.declared.token.QueryTokenKind.{QueryTokenKind}
use Rattle.bq_query_lex.specs.declared.token.QueryTokenKind.TheVariants as k
use Rattle.bq_query_parse.specs.Lexeme.{Lexeme}
use Rattle.bq_query_parse.specs.declared.tree.Query.{Query}
use Rattle.bq_query_parse.specs.Grammar.{IsQueryTo}
use Rattle.bq_query_parse.specs.Reading.{query_to}

-- what is read is a query of the grammar, in which at most `depth` parentheses and lets are open
abbrev pub Sound : ℕ → List Lexeme → List Lexeme → Type 0
Sound depth ts rest = (x : Query) → query_to (suc depth) ts ≡ Some (x, rest) → IsQueryTo depth ts rest x

-- a token that can't go on with a query
abbrev pub ends_query : QueryTokenKind → Bool
ends_query k.Open = false
ends_query k.Union = false
ends_query k.Intersect = false
ends_query k.Except = false
ends_query _ = true

-- there is no next token, or it can't go on with a query
abbrev pub EndsQuery : List Lexeme → Type 0
EndsQuery [] = Unit {0}
EndsQuery (t ∷ ts) = ends_query t.kind ≡ true

-- each query of the grammar is read whole, where the token after it can't go on with it
abbrev pub Complete : ℕ → List Lexeme → List Lexeme → Type 0
Complete depth ts rest = (x : Query) → IsQueryTo depth ts rest x → EndsQuery rest → query_to (suc depth) ts ≡ Some (x, rest)

-- tokens are one query at most, of those that end in one place
abbrev pub OneQuery : ℕ → List Lexeme → List Lexeme → Type 0
OneQuery depth ts rest = EndsQuery rest → (x y : Query) → IsQueryTo depth ts rest x → IsQueryTo depth ts rest y → x ≡ y
