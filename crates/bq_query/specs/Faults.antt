-- What the patterns of a formula name that is not there: the first in the order of the text (Q5, Q6).
use Rattle.std.specs.Prelude.{◌≡◌, ◌≢◌, Bool, List, length, Some, None, Result, Ok, Err}
use Rattle.std.specs.Option.{option_or}
use Rattle.bq_query_lex.specs.declared.query_error.QueryErr.{QueryErr}
use Rattle.bq_query_lex.specs.declared.query_error.QueryErr.TheVariants as e
use Rattle.bq_query_check.specs.Verdict.{Fault}
use Rattle.bq_query_check.specs.Formula.{Formula, named, variable, let_in, combined, one, two, IsClosed}
use Rattle.bq_query_function.specs.Missing.{first_missing}
use Rattle.bq_query_graph.specs.Marks.{IsSet}
use Rattle.bq_query.specs.Stands.{Stands, Bound, AreSets}
use Rattle.bq_query_target_graph.specs.Graph.{GraphParts}

-- the first pattern in a formula that names nothing
abbrev pub fault_in : GraphParts → Formula → Fault
fault_in w (named patterns) = first_missing w.packages w.targets patterns
fault_in w (variable k) = None
fault_in w (let_in a b) = option_or (fault_in w a) (fault_in w b)
fault_in w (combined o a b) = option_or (fault_in w a) (fault_in w b)
fault_in w (one s a) = fault_in w a
fault_in w (two s a b) = option_or (fault_in w a) (fault_in w b)

-- nothing that the formula names is missing, and these are the marks of its set
pub record Has (w : GraphParts) (bound : Bound) (x : Formula) (marks : List Bool) : Type 0 where
  pub none : fault_in w x ≡ None
  pub stands : IsSet (length w.targets) marks (Stands w x bound)

-- the variables of a formula have sets
pub record AreBound (w : GraphParts) (x : Formula) (bound : Bound) : Type 0 where
  pub closed : IsClosed (length bound) x
  pub sets : AreSets w bound

-- what answering a formula ensures, out of memory aside: the marks of its set where nothing is missing, and the bound sets as they were;
-- else the first fault of its text
abbrev pub Answers : {A : Type 0} → (A → List Bool) → GraphParts → Formula → Bound → Bound → Result A QueryErr → Bound → Type 0
Answers marks w x bound before (Ok r) after = Has w bound x (marks r) × (after ≡ before)
Answers marks w x bound before (Err why) after = why ≢ e.Memory → fault_in w x ≡ Some why
