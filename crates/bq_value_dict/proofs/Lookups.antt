-- The words of an `IndexMap` are those of a dict.
use Rattle.std.specs.Map.{lookup, remove_entry}
use Rattle.indexmap.specs.IndexMap.{insert_entry}
use Rattle.bq_value_datum.specs.Datum.{Datum}
use Rattle.bq_value_datum.specs.Same.{same}
use Rattle.bq_value_dict.specs.Pairs.{found, put, without}
use Rattle.std.proofs.Common.{◌≡◌, cond, List, [], ◌∷◌, Some, refl, ap, ℕ, suc, ◌+◌, drop, slice_get, ◌∙◌, add-one}
use Rattle.std.proofs.lemmas.Option.{get_or_from_slice_get, slice_get_within}
use Rattle.std.proofs.Math.Seq.{drop-cons}

pub lookup_found : (k : Datum) (ps : List (Datum × Datum)) → lookup (same k) ps ≡ found k ps
lookup_found k [] = refl
lookup_found k (p ∷ ps) = ap (λ o. cond (same k p.0) (Some p.1) o) (lookup_found k ps)

pub insert_put : (k v : Datum) (ps : List (Datum × Datum)) → insert_entry same ps k v ≡ put k v ps
insert_put k v [] = refl
insert_put k v (p ∷ ps) = ap (λ o. cond (same k p.0) ((p.0, v) ∷ ps) (p ∷ o)) (insert_put k v ps)

pub remove_without : (k : Datum) (ps : List (Datum × Datum)) → remove_entry (same k) ps ≡ without k ps
remove_without k [] = refl
remove_without k (p ∷ ps) = ap (λ o. cond (same k p.0) ps (p ∷ o)) (remove_without k ps)

-- an element, and what is after it
pub drop_found : {A : Type 0} (xs : List A) (i : ℕ) (x : A) → slice_get xs i ≡ Some x → drop i xs ≡ x ∷ drop (i + 1) xs
drop_found xs i x h = rw add-one (drop-cons xs i x (slice_get_within xs i x h) ∙ ap (λ y. y ∷ drop (suc i) xs) (get_or_from_slice_get xs i x x h))
