-- Labels that are added each once add what they add one by one.
use Rattle.std.proofs.Common.{◌≡◌, ◌∙◌, true, List, [], ◌∷◌, refl, sym, ap, inl, inr}
use Rattle.std.specs.List.{Contains}
use Rattle.std.proofs.lemmas.Bool.{cases_Bool}
use Rattle.std.proofs.lemmas.Map.Views.{Contains-from_any, list_any-from_Contains}
use Rattle.bq_label.specs.Label.{LabelParts}
use Rattle.bq_label_set.specs.Labels.{same_label-Decides, same_label-equiv, has_label, with_label, with_labels}
use Rattle.bq_label_set.proofs.Added.{known_label, new_label, the_labels_added, with_labels-append}

one_more : (ls ks : List LabelParts) (x : LabelParts) → with_labels ls (with_label ks x) ≡ with_label (with_labels ls ks) x
unfolding with_labels
one_more ls ks x = elim (cases_Bool (has_label ks x)) [
  | inl there ↦
      let here : Contains ks x = Contains-from_any (λ a b e. (same_label-Decides a b).0 e) x ks there in
      let known : has_label (with_labels ls ks) x ≡ true = list_any-from_Contains same_label-equiv x (with_labels ls ks) ((the_labels_added ls ks x).1 (inr here)) in
      ap (with_labels ls) (known_label ks x there) ∙ sym (known_label (with_labels ls ks) x known)
  | inr lacks ↦ ap (with_labels ls) (new_label ks x lacks) ∙ with_labels-append ls ks (x ∷ [])
]

each_after : (ls ks xs : List LabelParts) → with_labels ls (with_labels ks xs) ≡ with_labels (with_labels ls ks) xs
unfolding with_labels
each_after ls ks [] = refl
each_after ls ks (x ∷ xs) = each_after ls (with_label ks x) xs ∙ ap (λ (z : List LabelParts). with_labels z xs) (one_more ls ks x)

pub each_once : (ls xs : List LabelParts) → with_labels ls (with_labels [] xs) ≡ with_labels ls xs
unfolding with_labels
each_once ls xs = each_after ls [] xs
