-- What an answer in place of a label says: there was one, or none.
use Rattle.std.proofs.Common.{◌≡◌, Option, Some, None, Ok, Err, refl, arith}
use Rattle.bq_base.specs.declared.fault.EvalFault.{EvalFault}
use Rattle.bq_base.specs.declared.fault.Fault.{Fault}
use Rattle.bq_label.specs.Label.{LabelParts}
use Rattle.bq_label.specs.Reading.{or_bad_label}

pub or_bad_label_ok : (found : Option LabelParts) (l : LabelParts) → or_bad_label found ≡ Ok l → found ≡ Some l
or_bad_label_ok None l e = grind arith
or_bad_label_ok (Some m) l e = grind arith

pub or_bad_label_err : (found : Option LabelParts) (why : Fault EvalFault) → or_bad_label found ≡ Err why → found ≡ None
or_bad_label_err None why e = refl
or_bad_label_err (Some m) why e = grind arith
