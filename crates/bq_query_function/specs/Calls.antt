-- The functions by their names, how many arguments they take, and calls.
use Rattle.std.specs.Prelude.{ℕ, ◌+◌, Bool, true, false, List, [], ◌∷◌, Option, bytes_eq, if◌then◌else◌}
use Rattle.std.specs.List.{list_any}
use Rattle.std.specs.Map.{lookup}
use Rattle.bq_query_function.specs.declared.call.Call.{Call}
use Rattle.bq_query_function.specs.declared.signature.QueryArgumentKind.{QueryArgumentKind}
use Rattle.bq_query_function.specs.declared.signature.QueryArgumentKind.TheVariants.{Number}
use Rattle.bq_query_function.specs.declared.signature.QuerySignature.{QuerySignature}
use Rattle.bq_query_function.specs.Functions.{Row, functions, left_out, set_of_one, set_of_two}
use Rattle.bq_query_function.specs.Sets.{SetOfOne, SetOfTwo}

-- the row of a signature
abbrev pub row_of : QuerySignature → Row
row_of s = record { function = s.function; parameters = s.parameters.now }

-- the function of this name
abbrev pub function_named : List ℕ → Option Row
function_named name = lookup (bytes_eq name) functions

-- a function of Bazel's that is left out here
abbrev pub is_left_out : List ℕ → Bool
is_left_out name = list_any (bytes_eq name) left_out

-- an argument of this kind must be there
abbrev pub is_mandatory : QueryArgumentKind → Bool
is_mandatory kind = elim kind [ Number ↦ false | _ ↦ true ]

-- how many arguments there must be: only a number of edges may be left out
abbrev pub mandatory : List QueryArgumentKind → ℕ
mandatory [] = 0
mandatory (kind ∷ kinds) = if is_mandatory kind then 1 + mandatory kinds else mandatory kinds

-- the set of a call of a function of one set
abbrev pub of_one : Call → SetOfOne
of_one c = set_of_one c.function c.attribute c.pattern c.limit

-- the set of a call of a function of two sets
abbrev pub of_two : Call → SetOfTwo
of_two c = set_of_two c.function c.attribute c.pattern c.limit
