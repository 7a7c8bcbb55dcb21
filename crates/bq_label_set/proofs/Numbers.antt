-- A label has the number at which it is in the set.
use Rattle.std.proofs.Common.{◌≡◌, ◌∙◌, ◌<◌, ℕ, true, false, cond, nat_lt, List, Some, None, length, get_or, position, slice_get, refl, sym, ap, arith}
use Rattle.std.specs.List.{IsDistinct, position_or_len}
use Rattle.std.proofs.lemmas.Bool.Decides.{nat_tests}
use Rattle.std.proofs.lemmas.List.Quantifiers.{position-Some}
use Rattle.std.proofs.lemmas.List.Sums.{position_or_len_is}
use Rattle.std.proofs.lemmas.Map.Keys.{apart_from_distinct}
use Rattle.std.proofs.lemmas.Option.{slice_get-get_or, slice_get_within, get_or_from_slice_get}
use Rattle.bq_label.specs.Label.{LabelParts}
use Rattle.bq_label_set.specs.Labels.{same_label, same_label-Decides, same_label-equiv}
use Rattle.bq_label_set.specs.Laws.{LabelsWithNumbers}

at_number : (ls : List LabelParts) (l : LabelParts) (n : ℕ) → position (same_label l) ls ≡ Some n → slice_get ls n ≡ Some l
at_number ls l n h =
    let p = position-Some (same_label l) ls n l h in
    slice_get-get_or ls n l p.0 ∙ ap Some (sym ((same_label-Decides l (get_or ls n l)).0 p.1))

found : (n m b : ℕ) → n ≡ b → nat_lt b m ≡ true → cond (nat_lt n m) (Some n) None ≡ Some b
found n m b e h = rw (e, h) refl

pub the_number : (ls : List LabelParts) (l : LabelParts) (n : ℕ) → IsDistinct same_label ls → slice_get ls n ≡ Some l → position (same_label l) ls ≡ Some n
the_number ls l n d e =
    let within : n < length ls = slice_get_within ls n l e in
    let is : get_or ls n l ≡ l = get_or_from_slice_get ls n l l e in
    let here : same_label l (get_or ls n l) ≡ true = (same_label-Decides l (get_or ls n l)).1 (sym is) in
    let before : (k : ℕ) → k < n → same_label l (get_or ls k l) ≡ false =
    λ k h. same_label-equiv.symm l (get_or ls k l) ∙ (ap (λ (z : LabelParts). same_label (get_or ls k l) z) (sym is) ∙ apart_from_distinct same_label ls k n l d h within) in
    let place : position_or_len (same_label l) ls ≡ n = position_or_len_is (same_label l) ls n l (omega (arith, within)) before (λ h. here) in
    let room : nat_lt n (length ls) ≡ true = grind (arith, nat_tests) in
    found (position_or_len (same_label l) ls) (length ls) n place room

pub labels_with_numbers : LabelsWithNumbers
labels_with_numbers ls l n d = (λ h. at_number ls l n h, λ h. the_number ls l n d h)
