-- What is found for elements, one after another.
use Rattle.std.proofs.Common.{◌≡◌, ◌∙◌, ◌+◌, ◌<◌, ◌≤◌, ℕ, List, [], ◌∷◌, ◌++◌, length, drop, get_or, Option, Some, None, option_to_list, filter_map, refl, sym, ap, append_assoc}
use Rattle.std.proofs.lemmas.List.{at_drop_more, at_drop_all, append-nil}
use Rattle.std.specs.List.{cons_option}

module _ {A B : Type 0} (find : A → Option B) where
  in_front : (o : Option B) (xs : List B) → cons_option o xs ≡ option_to_list o ++ xs
  in_front None xs = refl
  in_front (Some x) xs = refl

  -- one more is looked at
  pub next_found : (xs : List A) (i : ℕ) (x : A) → i < length xs → x ≡ get_or xs i x → (old new all : List B) → new ≡ old ++ option_to_list (find x)
      → old ++ filter_map find (drop i xs) ≡ all → new ++ filter_map find (drop (i + 1) xs) ≡ all
  next_found xs i x h e old new all is before =
      let rest : List B = filter_map find (drop (i + 1) xs) in
      let more : filter_map find (drop i xs) ≡ option_to_list (find x) ++ rest =
      at_drop_more (filter_map find) xs i x h ∙ (ap (λ (z : A). cons_option (find z) rest) (sym e) ∙ in_front (find x) rest) in
      ap (λ (z : List B). z ++ rest) is ∙ (append_assoc old (option_to_list (find x)) rest ∙ (ap (λ (z : List B). old ++ z) (sym more) ∙ before))

  pub done_found : (xs : List A) (i : ℕ) → length xs ≤ i → (old all : List B) → old ++ filter_map find (drop i xs) ≡ all → old ≡ all
  done_found xs i h old all before = sym (append-nil old) ∙ (ap (λ (z : List B). old ++ z) (sym (at_drop_all (filter_map find) xs i h)) ∙ before)
