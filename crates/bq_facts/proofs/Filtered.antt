-- Members of a filtered list.
use Rattle.std.proofs.Common.{◌≡◌, ◌⊎◌, Bool, true, List, [], ◌∷◌, sym, ap, subst, ◌∙◌, ⊎_elim, inl, inr, arith}
use Rattle.std.specs.List.{Contains, filter}
use Rattle.std.proofs.lemmas.Bool.{cases_Bool, cond-true, cond-false, true≢false}
use Rattle.std.proofs.lemmas.List.Elements.{Contains-append_cases, Contains-append_left, Contains-append_right, Contains-push, Contains-push_cases}

none_in_nil : {X : Type 0} (y : X) → Contains [] y → ⊥
none_in_nil y h = omega (arith, h.1)

contains_cases : {X : Type 0} (x : X) (xs : List X) (y : X) → Contains (x ∷ xs) y → (x ≡ y) ⊎ Contains xs y
contains_cases x xs y h =
    ⊎_elim
    (λ first. ⊎_elim (λ none. absurd (none_in_nil y none)) (λ same. inl same) (Contains-push_cases [] x y first))
    (λ later. inr later)
    (Contains-append_cases (x ∷ []) xs y h)

contains_here : {X : Type 0} (x : X) (xs : List X) → Contains (x ∷ xs) x
contains_here x xs = Contains-append_left (x ∷ []) xs x (Contains-push [] x)

contains_later : {X : Type 0} (x : X) (xs : List X) (y : X) → Contains xs y → Contains (x ∷ xs) y
contains_later x xs y h = Contains-append_right (x ∷ []) xs y h

pub into_filter : {X : Type 0} (p : X → Bool) (xs : List X) (y : X) → Contains xs y → p y ≡ true → Contains (filter p xs) y
into_filter p [] y h passes = absurd (none_in_nil y h)
into_filter {X} p (x ∷ xs) y h passes =
    ⊎_elim
    (λ yes.
    subst (λ (l : List X). Contains l y) (sym (cond-true _ _ _ yes))
    (⊎_elim
    (λ (same : x ≡ y). subst (λ (z : X). Contains (x ∷ filter p xs) z) same (contains_here x (filter p xs)))
    (λ later. contains_later x (filter p xs) y (into_filter p xs y later passes))
    (contains_cases x xs y h)))
    (λ no.
    subst (λ (l : List X). Contains l y) (sym (cond-false _ _ _ no))
    (⊎_elim
    (λ (same : x ≡ y). absurd (true≢false (sym passes ∙ ap p (sym same) ∙ no)))
    (λ later. into_filter p xs y later passes)
    (contains_cases x xs y h)))
    (cases_Bool (p x))

pub from_filter : {X : Type 0} (p : X → Bool) (xs : List X) (y : X) → Contains (filter p xs) y → Contains xs y
from_filter p [] y h = h
from_filter {X} p (x ∷ xs) y h =
    ⊎_elim
    (λ yes.
    ⊎_elim
    (λ (same : x ≡ y). subst (λ (z : X). Contains (x ∷ xs) z) same (contains_here x xs))
    (λ later. contains_later x xs y (from_filter p xs y later))
    (contains_cases x (filter p xs) y (subst (λ (l : List X). Contains l y) (cond-true _ _ _ yes) h)))
    (λ no. contains_later x xs y (from_filter p xs y (subst (λ (l : List X). Contains l y) (cond-false _ _ _ no) h)))
    (cases_Bool (p x))
