-- What counts as true.
use Rattle.std.proofs.Common.{◌≡◌, ◌∙◌, ap, refl, Bool, true, false, List, [], ◌∷◌, Ok}
use Rattle.std.specs.Prelude.{Any, All}
use Rattle.std.specs.List.{list_any, list_all}
use Rattle.std.proofs.lemmas.List.Folds.{list_any-from_Any, list_any_none, list_all_at}
use Rattle.std.proofs.lemmas.List.Elements.{All-head, All-tail}
use Rattle.bq_value.specs.Cells.{StoreView}
use Rattle.bq_value.specs.Datum.{Datum, boolean}
use Rattle.bq_value.specs.Truth.{truth_of}
use Rattle.bq_builtin_machine.specs.Iteration.{elements_in}
use Rattle.bq_builtin.specs.Arguments as arguments
use Rattle.bq_builtin.specs.Arguments.{only_argument}
use Rattle.bq_builtin_methods.specs.Arguments.{one_argument}
use Rattle.bq_builtin.specs.Truths.{all_true, any_true, all, any}
use Rattle.bq_builtin_laws.specs.Functions.Words.{by_place}

every : {X : Type 0} (p : X → Bool) (xs : List X) → All (λ x. p x ≡ true) xs → list_all p xs ≡ true
every p [] h = refl
every p (x ∷ xs) h = let here = All-head (λ y. p y ≡ true) x xs h in let later = every p xs (All-tail (λ y. p y ≡ true) x xs h) in rw (here, later) refl

not_every : {X : Type 0} (p : X → Bool) (xs : List X) → Any (λ x. p x ≡ false) xs → list_all p xs ≡ false
not_every p xs h = list_all_at p xs h.0 h.1 h.2 (ap p h.3 ∙ h.4)

module _ (s : StoreView) (x : Datum) (xs : List Datum) (known : elements_in s x ≡ Ok xs) where
  any_is : any s (by_place (x ∷ [])) ≡ Ok (boolean (list_any (truth_of s) xs))
  unfolding any only_argument arguments.by_place one_argument any_true
  any_is = rw known refl

  all_is : all s (by_place (x ∷ [])) ≡ Ok (boolean (list_all (truth_of s) xs))
  unfolding all only_argument arguments.by_place one_argument all_true
  all_is = rw known refl

  pub some_true : Any (λ v. truth_of s v ≡ true) xs → any s (by_place (x ∷ [])) ≡ Ok (boolean true)
  some_true h = any_is ∙ ap (λ b. Ok (boolean b)) (list_any-from_Any (truth_of s) xs h)

  pub none_true : All (λ v. truth_of s v ≡ false) xs → any s (by_place (x ∷ [])) ≡ Ok (boolean false)
  none_true h = any_is ∙ ap (λ b. Ok (boolean b)) (list_any_none (truth_of s) xs h)

  pub every_true : All (λ v. truth_of s v ≡ true) xs → all s (by_place (x ∷ [])) ≡ Ok (boolean true)
  every_true h = all_is ∙ ap (λ b. Ok (boolean b)) (every (truth_of s) xs h)

  pub some_false : Any (λ v. truth_of s v ≡ false) xs → all s (by_place (x ∷ [])) ≡ Ok (boolean false)
  some_false h = all_is ∙ ap (λ b. Ok (boolean b)) (not_every (truth_of s) xs h)
