-- What the call of a function says, once its arguments are read (Bazel query reference, "Functions").
use Rattle.std.specs.Prelude.{ℕ, List, [], ◌∷◌, Option, Some, None, map}
use Rattle.bq_query_function.specs.Functions.{Row, set_of_one, set_of_two}
use Rattle.bq_query_function.specs.Sets.{SetOfOne, SetOfTwo}
use Rattle.bq_query_check.specs.declared.call.Arguments.{Arguments}
use Rattle.bq_query_check.specs.Formula.{Formula, one, two, formula_of}

-- the arguments of a call by their kinds: sets in order, and at most one name of an attribute, one regular expression and one number of edges
pub record Given : Type 0 where
  pub sets : List Formula
  pub attribute : Option (List ℕ)
  pub pattern : Option (List ℕ)
  pub limit : Option ℕ

-- no argument
abbrev pub nothing : Given
nothing = record { sets = []; attribute = None; pattern = None; limit = None }

-- those that were read
abbrev pub given : Arguments → Given
given r = record { sets = map formula_of r.sets; attribute = r.attribute; pattern = r.pattern; limit = r.limit }

-- a set that is made of one set, or of two
abbrev pub applied : SetOfOne → SetOfTwo → List Formula → Option Formula
applied s t (a ∷ []) = Some (one s a)
applied s t (a ∷ b ∷ []) = Some (two t a b)
applied s t xs = None

-- what the call of a function says
abbrev pub called : Row → Given → Option Formula
called row g = applied (set_of_one row.function g.attribute g.pattern g.limit) (set_of_two row.function g.attribute g.pattern g.limit) g.sets
