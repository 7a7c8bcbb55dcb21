-- What the pairs of a dict are, few or many.
use Rattle.std.specs.Prelude.{List}
use Rattle.bq_value_datum.specs.Datum.{Datum}
use Rattle.bq_value_dict.specs.declared.dict.Pairs.{Pairs}
use Rattle.bq_value_dict.specs.declared.dict.Pairs.TheVariants.{Few, Many}

-- the pairs of a dict in their order, in the layout for few pairs or in the one for many
abbrev pub pairs_of : Pairs → List (Datum × Datum)
pairs_of (Few f) = f
pairs_of (Many m) = m.value
