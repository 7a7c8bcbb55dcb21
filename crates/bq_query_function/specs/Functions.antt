-- The functions of queries (Bazel query reference, "Functions"): the name of each, what its arguments must be, and the set that it stands
-- for. Calls are checked, read and answered by these rows alone.
use Rattle.std.specs.Prelude.{ℕ, List, [], ◌∷◌, Option, Some, codes}
use Rattle.bq_query_function.specs.Labels.{is_named_by}
use Rattle.bq_query_function.specs.Matching.{has_kind, has_text, has_attribute}
use Rattle.bq_query_function.specs.declared.functions.QueryFunction.{QueryFunction}
use Rattle.bq_query_function.specs.declared.functions.QueryFunction.TheVariants as f
use Rattle.bq_query_function.specs.declared.signature.QueryArgumentKind.{QueryArgumentKind}
use Rattle.bq_query_function.specs.declared.signature.QueryArgumentKind.TheVariants.{Query, Pattern, Attribute, Number}
use Rattle.bq_query_function.specs.Sets.{SetOfOne, SetOfTwo, reached, chosen, related, reaching, between, none, none_of_two}

-- a function, and what its arguments must be, in order. A number of edges alone may be left out, and comes last
pub record Row : Type 0 where
  pub function : QueryFunction
  pub parameters : List QueryArgumentKind

-- a row by its parts
abbrev pub function_row : QueryFunction → List QueryArgumentKind → Row
function_row function parameters = record { function = function; parameters = parameters }

-- the functions by their names, in order
abbrev pub functions : List (List ℕ × Row)
functions =
    (codes "allpaths", function_row f.Allpaths (Query ∷ Query ∷ []))
    ∷ (codes "attr", function_row f.Attr (Attribute ∷ Pattern ∷ Query ∷ []))
    ∷ (codes "deps", function_row f.Deps (Query ∷ Number ∷ []))
    ∷ (codes "filter", function_row f.Filter (Pattern ∷ Query ∷ []))
    ∷ (codes "kind", function_row f.Kind (Pattern ∷ Query ∷ []))
    ∷ (codes "labels", function_row f.Labels (Attribute ∷ Query ∷ []))
    ∷ (codes "rdeps", function_row f.Rdeps (Query ∷ Query ∷ Number ∷ []))
    ∷ []

-- functions of Bazel that are left out
abbrev pub left_out : List (List ℕ)
left_out =
    codes "allrdeps" ∷ codes "buildfiles" ∷ codes "executables" ∷ codes "loadfiles" ∷ codes "same_pkg_direct_rdeps" ∷ codes "siblings" ∷ codes "some"
    ∷ codes "somepath" ∷ codes "tests" ∷ codes "visible" ∷ []

-- the set that a function of one set stands for, with the name of an attribute, the pattern and the number of edges that are among its
-- arguments. Of other arguments, which no call has that is checked, it is empty
abbrev pub set_of_one : QueryFunction → Option (List ℕ) → Option (List ℕ) → Option ℕ → SetOfOne
set_of_one f.Attr (Some name) (Some pattern) n = chosen (has_attribute name pattern)
set_of_one f.Deps name pattern n = reached n
set_of_one f.Filter name (Some pattern) n = chosen (has_text pattern)
set_of_one f.Kind name (Some pattern) n = chosen (has_kind pattern)
set_of_one f.Labels (Some name) pattern n = related (is_named_by name)
set_of_one function name pattern n = none

-- so is the set that a function of two sets stands for
abbrev pub set_of_two : QueryFunction → Option (List ℕ) → Option (List ℕ) → Option ℕ → SetOfTwo
set_of_two f.Allpaths name pattern n = between
set_of_two f.Rdeps name pattern n = reaching n
set_of_two function name pattern n = none_of_two
