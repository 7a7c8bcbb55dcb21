-- The target patterns of a query are read from words of its text, in its order.
use Rattle.std.specs.Prelude.{ℕ, List, [], ◌∷◌, Some}
use Rattle.bq_query_lex.specs.Reading as tokens
use Rattle.bq_query_lex.specs.declared.token.QueryToken.{QueryToken}
use Rattle.bq_query_lex.specs.declared.pattern.TargetPattern.{TargetPattern}
use Rattle.bq_query_lex.specs.PatternReading.{ArePatternsOf}
use Rattle.bq_query_parse.specs.Grammar.{IsWord}
use Rattle.bq_query_parse.specs.Lexeme.{Lexeme, lexemes}
use Rattle.bq_query_parse.specs.declared.tree.Query.{Query}
use Rattle.bq_query_parse.specs.Parses.{IsQuery}
use Rattle.bq_query_check.specs.Formula.{Formula}
use Rattle.bq_query_check.specs.FormulaOf.{IsFormulaOf}
use Rattle.bq_run_laws.specs.Queries.Missing.{target_patterns}

-- the tokens before the rest write these words, one after another, with other tokens before, between and after them
pub data WriteWords : List Lexeme → List Lexeme → List (List ℕ) → Type 0 where
  no_more : {ts : List Lexeme} → WriteWords ts ts []
  other : {t : Lexeme} {ts rest : List Lexeme} {ws : List (List ℕ)} → WriteWords ts rest ws → WriteWords (t ∷ ts) rest ws
  word : {t : Lexeme} {ts rest : List Lexeme} {w : List ℕ} {ws : List (List ℕ)} → IsWord (t ∷ ts) ts w → WriteWords ts rest ws
      → WriteWords (t ∷ ts) rest (w ∷ ws)

-- the text is cut into tokens that write words, which are the patterns
pub record TextWrites (text : List ℕ) (patterns : List TargetPattern) : Type 0 where
  pub words : List (List ℕ)
  pub read : ArePatternsOf words patterns
  pub cut : List QueryToken
  pub reads : tokens.Reads text 0 (Some cut)
  pub write : WriteWords (lexemes text cut) [] words

-- the target patterns of a query are words of its text, in its order
abbrev pub WordsInTextOrder : Type 0
WordsInTextOrder = (text : List ℕ) (tree : Query) (x : Formula) → IsQuery text tree → IsFormulaOf [] tree x → TextWrites text (target_patterns x)
