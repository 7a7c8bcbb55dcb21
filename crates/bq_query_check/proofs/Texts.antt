-- What is read of a text is what is read of its tree.
use Rattle.std.proofs.Common.{ℕ, List, [], refl}
use Rattle.std.specs.List.{AllByRecursion}
use Rattle.bq_query_lex.specs.declared.query_error.QueryErr.{QueryErr}
use Rattle.bq_query_lex.specs.declared.query_error.QueryErr.TheVariants as e
use Rattle.bq_query_parse.specs.declared.tree.Query.{Query}
use Rattle.bq_query_parse.specs.Parses.{IsQuery}
use Rattle.bq_query_check.specs.Verdict.{needs}
use Rattle.bq_query_check.specs.declared.checked.CheckedQuery.{CheckedQuery}
use Rattle.bq_query_check.specs.Formula.{formula_of}
use Rattle.bq_query_check.specs.FormulaOf.{IsFormulaOf}
use Rattle.bq_query_check.specs.Checked.{Holds, FirstFails, IsChecked, IsWrong}

pub syntax_is_wrong : (text : List ℕ) → ((x : Query) → IsQuery text x → ⊥) → IsWrong text e.Syntax
syntax_is_wrong text none = IsWrong.no_tree refl none

-- what is read of a tree has its variables bound
pub read_checks : (text : List ℕ) (x : Query) (q : CheckedQuery) → IsQuery text x → AllByRecursion Holds (needs x) → IsFormulaOf [] x (formula_of q.set) → IsChecked text (formula_of q.set)
read_checks text x q parsed sound formula = record { tree = x; parsed = parsed; sound = sound; formula = formula }

pub fault_is_wrong : (text : List ℕ) (x : Query) (why : QueryErr) → IsQuery text x → FirstFails (needs x) why → IsWrong text why
fault_is_wrong text x why parsed h = IsWrong.fault x parsed h
