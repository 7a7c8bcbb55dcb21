-- Which fault a query ends with, in words of its target patterns in the order of the text.
use Rattle.std.specs.Prelude.{◌≡◌, ◌≢◌, List, [], ◌∷◌, ◌++◌, Option, Some, None}
use Rattle.std.specs.List.{AllByRecursion, Contains}
use Rattle.bq_label.specs.Label.{LabelParts, package_of, full_form}
use Rattle.bq_query_lex.specs.declared.query_error.QueryErr.{QueryErr}
use Rattle.bq_query_lex.specs.declared.query_error.QueryErr.TheVariants as e
use Rattle.bq_query_lex.specs.declared.pattern.TargetPattern.{TargetPattern}
use Rattle.bq_query_lex.specs.declared.pattern.TargetPattern.TheVariants as pattern
use Rattle.bq_package_target.specs.declared.target.Target.{Target}
use Rattle.bq_query_check.specs.Formula.{Formula, named, variable, let_in, combined, one, two}
use Rattle.bq_query_function.specs.Missing.{missing}
use Rattle.bq_query.specs.Faults.{fault_in}
use Rattle.bq_query_target_graph.specs.Graph.{GraphParts}

-- the target patterns of a query, one after another
abbrev pub target_patterns : Formula → List TargetPattern
target_patterns (named patterns) = patterns
target_patterns (variable k) = []
target_patterns (let_in a b) = target_patterns a ++ target_patterns b
target_patterns (combined o a b) = target_patterns a ++ target_patterns b
target_patterns (one f a) = target_patterns a
target_patterns (two f a b) = target_patterns a ++ target_patterns b

-- what the pattern names that is not there
abbrev pub missing_of : GraphParts → TargetPattern → Option QueryErr
missing_of w p = missing w.packages w.targets p

-- nothing is missing of these patterns
abbrev pub AreThere : GraphParts → List TargetPattern → Type 0
AreThere w patterns = AllByRecursion (λ p. missing_of w p ≡ None) patterns

-- the first pattern of which something is missing
pub record IsFirstMissing (w : GraphParts) (x : Formula) (why : QueryErr) : Type 0 where
  pub before : List TargetPattern
  pub pattern : TargetPattern
  pub after : List TargetPattern
  pub patterns : target_patterns x ≡ before ++ pattern ∷ after
  pub there : AreThere w before
  pub missing : missing_of w pattern ≡ Some why

-- the query fails for the first of its patterns that names what is not there, and else has an answer
pub record FailsForFirstMissing (w : GraphParts) (x : Formula) : Type 0 where
  pub first : (why : QueryErr) → fault_in w x ≡ Some why → IsFirstMissing w x why
  pub fails : (why : QueryErr) → IsFirstMissing w x why → fault_in w x ≡ Some why
  pub answers : fault_in w x ≡ None → AreThere w (target_patterns x)
  pub all_there : AreThere w (target_patterns x) → fault_in w x ≡ None

-- ---- a label

-- what is missing of a label: its package, before the target in it
pub record MissingPackageFirst (w : GraphParts) (l : LabelParts) : Type 0 where
  -- Q6, also where a target has the label
  pub no_package : ¬ Contains w.packages (package_of l) → missing_of w (pattern.Target l) ≡ Some (e.NoSuchPackage (full_form l))
  -- Q5
  pub no_target : Contains w.packages (package_of l) → ((t : Target) → Contains w.targets t → full_form t.label ≢ full_form l)
      → missing_of w (pattern.Target l) ≡ Some (e.NoSuchTarget (full_form l))
  pub both_there : Contains w.packages (package_of l) → (t : Target) → Contains w.targets t → full_form t.label ≡ full_form l → missing_of w (pattern.Target l) ≡ None
