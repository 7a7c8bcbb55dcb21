-- Which tree a text has.
use Rattle.std.specs.Prelude.{ℕ, List, [], ◌∷◌, Option, Some, None, Result, Ok, Err, ◌≡◌, ◌≢◌, ◌+◌}
use Rattle.bq_query_lex.specs.declared.token.QueryToken.{QueryToken}
use Rattle.bq_query_lex.specs.Reading as tokens
use Rattle.bq_query_parse.specs.Lexeme.{Lexeme, lexemes}
use Rattle.bq_query_parse.specs.declared.refusal.QuerySyntaxErr.{QuerySyntaxErr}
use Rattle.bq_query_parse.specs.declared.refusal.QuerySyntaxErr.TheVariants.{Memory}
use Rattle.bq_query_parse.specs.declared.tree.Query.{Query}
use Rattle.bq_query_parse.specs.Grammar.{IsQueryTo, max_open}
use Rattle.bq_query_parse.specs.Turns.{Found}
use Rattle.bq_query_parse.specs.Reading.{query_to}

-- the text is cut into tokens, and all of them are a query of this tree
pub record IsQuery (text : List ℕ) (x : Query) : Type 0 where
  pub cut : List QueryToken
  pub reads : tokens.Reads text 0 (Some cut)
  pub derives : IsQueryTo max_open (lexemes text cut) [] x

-- what a parser ensures: the tree, or that there is none
abbrev pub Parses : List ℕ → Result Query QuerySyntaxErr → Type 0
Parses text (Ok x) = IsQuery text x
Parses text (Err e) = e ≢ Memory → (x : Query) → IsQuery text x → ⊥

-- ---- tokens

-- what was read, if no tokens are left after it
abbrev pub whole : Found Query → Option Query
whole None = None
whole (Some (x, [])) = Some x
whole (Some (x, t ∷ ts)) = None

-- what all these tokens are read as
abbrev pub whole_query : List Lexeme → Option Query
whole_query ts = whole (query_to (max_open + 1) ts)

-- a text has one tree at most
abbrev pub OneTree : List ℕ → Type 0
OneTree text = (x y : Query) → IsQuery text x → IsQuery text y → x ≡ y
