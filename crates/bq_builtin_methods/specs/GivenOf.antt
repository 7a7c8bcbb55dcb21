-- What the fields of given pairs stand for.
use Rattle.bq_builtin_methods.specs.PairsGiven.{GivenView}
use Rattle.bq_builtin_methods.specs.declared.pairs_given.PairsGiven.TheInside.{Inside}

-- what is read so far of the pairs that `update` and `dict` are given
abbrev pub given_of : Inside → GivenView
given_of g = record { keyed = g.keyed.items; unkeyed = g.unkeyed.items; all_have_two = g.all_have_two; keywords = g.keywords }
