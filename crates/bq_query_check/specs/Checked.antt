-- What is wrong with the text of a query, before any target is known (Q1 to Q4, Q7, Q8), and what a query says with which nothing is.
use Rattle.std.specs.Prelude.{◌≡◌, ◌≢◌, ◌⊎◌, ℕ, List, [], ◌∷◌, Some, None, Result, Ok, Err}
use Rattle.std.specs.List.{AllByRecursion}
use Rattle.bq_query_pattern.specs.Patterns.{IsRead, IsCause}
use Rattle.bq_query_pattern.specs.declared.PatternErr.TheVariants as pattern_err
use Rattle.bq_query_lex.specs.declared.query_error.QueryErr.{QueryErr}
use Rattle.bq_query_lex.specs.declared.query_error.QueryErr.TheVariants as e
use Rattle.bq_query_parse.specs.declared.tree.Query.{Query}
use Rattle.bq_query_parse.specs.Parses.{IsQuery}
use Rattle.bq_query_check.specs.Verdict.{Need, no_fault, regex, needs}
use Rattle.bq_query_check.specs.declared.checked.CheckedQuery.{CheckedQuery}
use Rattle.bq_query_check.specs.Formula.{Formula, formula_of}
use Rattle.bq_query_check.specs.FormulaOf.{IsFormulaOf}

-- there is no such fault, or the text is a pattern
abbrev pub Holds : Need → Type 0
Holds (no_fault fault) = fault ≡ None
Holds (regex text) = IsRead text

-- it doesn't hold, which is this error
abbrev pub Fails : Need → QueryErr → Type 0
Fails (no_fault fault) why = fault ≡ Some why
Fails (regex text) why = (why ≡ e.BadRegex) × IsCause text pattern_err.BadRegex

-- the first that doesn't hold is this error
abbrev pub FirstFails : List Need → QueryErr → Type 0
FirstFails [] why = ⊥
FirstFails (n ∷ ns) why = Fails n why ⊎ (Holds n × FirstFails ns why)

-- the text has no tree (Q1), or its tree has this fault
pub data IsWrong (text : List ℕ) (why : QueryErr) : Type 0 where
  no_tree : why ≡ e.Syntax → ((x : Query) → IsQuery text x → ⊥) → IsWrong text why
  fault : (x : Query) → IsQuery text x → FirstFails (needs x) why → IsWrong text why

-- the text has a tree with no fault, and the formula is what the tree says
pub record IsChecked (text : List ℕ) (x : Formula) : Type 0 where
  pub tree : Query
  pub parsed : IsQuery text tree
  pub sound : AllByRecursion Holds (needs tree)
  pub formula : IsFormulaOf [] tree x

-- what reading a text ensures, out of memory aside
abbrev pub Checks : List ℕ → Result CheckedQuery QueryErr → Type 0
Checks text (Ok query) = IsChecked text (formula_of query.set)
Checks text (Err why) = why ≢ e.Memory → IsWrong text why

-- what reading a part of a tree ensures, out of memory aside: all that must hold of it does, and what is read is this, or the first that
-- doesn't hold is the error
abbrev pub Reads : {A : Type 0} → List Need → (A → Type 0) → Result A QueryErr → Type 0
Reads ns IsThis (Ok x) = AllByRecursion Holds ns × IsThis x
Reads ns IsThis (Err why) = why ≢ e.Memory → FirstFails ns why
