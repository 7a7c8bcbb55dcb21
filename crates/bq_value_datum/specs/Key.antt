-- Which values may be keys of a dict (Starlark, "Hashing"): `None`, bools, integers, strings and tuples of these.
use Rattle.bq_value_datum.specs.Datum.{Datum, none, boolean, int, string, tuple, Data, end, datum}

abbrev mutual
  pub IsKey : Datum → Type 0
  IsKey none = Unit {0}
  IsKey (boolean b) = Unit {0}
  IsKey (int n) = Unit {0}
  IsKey (string s) = Unit {0}
  IsKey (tuple vs) = AreKeys vs
  IsKey _ = ⊥

  pub AreKeys : Data → Type 0
  AreKeys end = Unit {0}
  AreKeys (datum v vs) = IsKey v × AreKeys vs
