-- Lists of labels of different lengths are not the same.
use Rattle.std.proofs.Common.{◌≡◌, ◌≢◌, ◌∙◌, false, List, [], ◌∷◌, length, refl, ap, arith}
use Rattle.std.specs.Prelude.{◌&&◌}
use Rattle.std.proofs.Math.Bool.{and-false}
use Rattle.bq_label.specs.Label.{LabelParts}
use Rattle.bq_value_datum.specs.AttributeValue.{same_label, same_labels}

pub apart : (xs ys : List LabelParts) → length xs ≢ length ys → same_labels xs ys ≡ false
apart [] [] h = absurd (h refl)
apart [] (y ∷ ys) h = refl
apart (x ∷ xs) [] h = refl
apart (x ∷ xs) (y ∷ ys) h = ap (λ b. same_label x y && b) (apart xs ys (λ e. h (omega (arith, e)))) ∙ and-false (same_label x y)
