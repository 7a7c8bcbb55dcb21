-- What the reader and the grammar have to do with each other.
use Rattle.std.specs.Prelude.{ℕ, suc, List, [], ◌∷◌, Bool, true, false, ◌≡◌, ◌⊎◌, Ok, Err}
use Rattle.bq_source.specs.declared.token.TokenKind.{TokenKind}
use Rattle.bq_source.specs.declared.token.TokenKind.TheVariants as k
use Rattle.bq_parse_grammar.specs.Lexeme.{Lexeme}
use Rattle.bq_parse_grammar.specs.declared.refusal.SyntaxErr.TheVariants.{Lambda}
use Rattle.bq_parse_grammar.specs.declared.tree.Expr.{Expr}
use Rattle.bq_parse_grammar.specs.declared.tree.Nested.TheVariants.{Test}
use Rattle.bq_parse_grammar.specs.Grammar.{IsTestTo}
use Rattle.bq_parse_grammar.specs.Reading.{phrase}

-- what is read is a test; where the reading stops at `lambda`, there is a test before whatever tokens
abbrev pub Sound : ℕ → List Lexeme → Type 0
Sound depth ts =
    ((x : Expr) (rest : List Lexeme) → phrase (suc depth) Test ts ≡ Ok (x, rest) → IsTestTo depth ts rest x)
    × (phrase (suc depth) Test ts ≡ Err Lambda → (rest : List Lexeme) → (x : Expr) × IsTestTo depth ts rest x)

-- a token that can't go on with a test
abbrev pub ends_test : TokenKind → Bool
ends_test k.LeftParen = false
ends_test k.LeftBracket = false
ends_test k.Dot = false
ends_test k.Star = false
ends_test k.SlashSlash = false
ends_test k.Percent = false
ends_test k.Slash = false
ends_test k.Plus = false
ends_test k.Minus = false
ends_test k.LessLess = false
ends_test k.GreaterGreater = false
ends_test k.Ampersand = false
ends_test k.Caret = false
ends_test k.Pipe = false
ends_test k.EqualEqual = false
ends_test k.NotEqual = false
ends_test k.Less = false
ends_test k.Greater = false
ends_test k.LessEqual = false
ends_test k.GreaterEqual = false
ends_test k.In = false
ends_test k.Not = false
ends_test k.And = false
ends_test k.Or = false
ends_test k.If = false
ends_test _ = true

-- there is no next token, or it can't go on with a test
abbrev pub EndsTest : List Lexeme → Type 0
EndsTest [] = Unit {0}
EndsTest (t ∷ ts) = ends_test t.kind ≡ true

-- each test is read whole, or the reading stops at `lambda`
abbrev pub Complete : ℕ → List Lexeme → List Lexeme → Type 0
Complete depth ts rest =
    (x : Expr) → IsTestTo depth ts rest x → EndsTest rest → (phrase (suc depth) Test ts ≡ Ok (x, rest)) ⊎ (phrase (suc depth) Test ts ≡ Err Lambda)

-- the token is `lambda`
abbrev pub is_lambda : TokenKind → Bool
is_lambda k.Lambda = true
is_lambda _ = false

-- none of the tokens is `lambda`
abbrev pub NoLambda : List Lexeme → Type 0
NoLambda [] = Unit {0}
NoLambda (t ∷ ts) = (is_lambda t.kind ≡ false) × NoLambda ts

-- tokens without `lambda` are one test at most, of those that end in one place
abbrev pub OneTest : ℕ → List Lexeme → List Lexeme → Type 0
OneTest depth ts rest = NoLambda ts → EndsTest rest → (x y : Expr) → IsTestTo depth ts rest x → IsTestTo depth ts rest y → x ≡ y
