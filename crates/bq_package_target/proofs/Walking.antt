-- Walks along targets.
use Rattle.std.proofs.Common.{◌≡◌, ◌<◌, ◌≤◌, ◌+◌, ◌∙◌, ℕ, List, [], ◌∷◌, length, drop, get_or, sym, ap, subst}
use Rattle.std.proofs.lemmas.List.{drop_more, drop_all}
use Rattle.bq_package_target.specs.declared.target.Target.{Target}
use Rattle.bq_package_target.specs.Target.{names_of}
use Rattle.bq_package_target.proofs.Taking.{Takes}

pub left_is : {X : Type 0} (xs : List X) (i : ℕ) (x : X) → i < length xs → x ≡ get_or xs i x → drop i xs ≡ x ∷ drop (i + 1) xs
left_is {X} xs i x h e = drop_more xs i x h ∙ ap (λ (z : X). z ∷ drop (i + 1) xs) (sym e)

module _ (first names : List (List ℕ)) (ts : List Target) (i : ℕ) where
  pub names_left : (t : Target) → i < length ts → t ≡ get_or ts i t → Takes first (names_of ts) names (names_of (drop i ts)) → Takes first (names_of ts) names (t.label.name ∷ names_of (drop (i + 1) ts))
  names_left t h e f = subst (λ (z : List (List ℕ)). Takes first (names_of ts) names z) (ap names_of (left_is ts i t h e)) f

  pub names_done : length ts ≤ i → Takes first (names_of ts) names (names_of (drop i ts)) → Takes first (names_of ts) names []
  names_done h f = subst (λ (z : List (List ℕ)). Takes first (names_of ts) names z) (ap names_of (drop_all i ts h)) f
