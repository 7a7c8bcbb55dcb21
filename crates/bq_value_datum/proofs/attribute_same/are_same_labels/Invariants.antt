-- what is left to compare has the answer
use Rattle.std.proofs.Common.{◌≡◌, drop}
use Rattle.bq_value_datum.specs.AttributeValue.{same_labels}
use Rattle.bq_value_datum.proofs.attribute_same.are_same_labels.Given as goal

abbrev pub invariant-loop-i : goal.invariant-loop-i
invariant-loop-i l = same_labels l.a l.b ≡ same_labels (drop l.i l.a) (drop l.i l.b)
