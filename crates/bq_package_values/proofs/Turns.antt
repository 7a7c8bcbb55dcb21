-- What each element gives in turn, or which of them is refused; and what a test says of some and of all elements.
use Rattle.std.proofs.Common.{◌≡◌, ◌∙◌, ◌⊎◌, inl, inr, ℕ, zero, suc, ◌<◌, length, arith, Bool, true, false, List, [], ◌∷◌, ◌++◌, Result, Ok, Err, refl, sym, ap, subst, append_assoc, append-nil, slice_index_or}
use Rattle.std.specs.Prelude.{◌||◌, All, Any}
use Rattle.std.specs.List.{AllZip, list_any}
use Rattle.std.proofs.lemmas.List.Elements.{All-nil, All-cons, All-head, All-tail}
use Rattle.bq_package_values.specs.Steps.{in_turn}

-- ---- some element

pub any_here : {X : Type 0} (P : X → Type 0) (x : X) (xs : List X) → P x → Any P (x ∷ xs)
any_here P x xs p = (0, x, omega arith, refl, p)

pub any_later : {X : Type 0} (P : X → Type 0) (x : X) (xs : List X) → Any P xs → Any P (x ∷ xs)
any_later P x xs h = let within = h.2 in (suc h.0, h.1, omega arith, h.3, h.4)

pub any_cases : {X : Type 0} (P : X → Type 0) (x : X) (xs : List X) → Any P (x ∷ xs) → P x ⊎ Any P xs
any_cases {X = X} P x xs h = by h.0 h.1 h.2 h.3 h.4
  where
    by : (k : ℕ) (y : X) → k < length (x ∷ xs) → slice_index_or (x ∷ xs) k y ≡ y → P y → P x ⊎ Any P xs
    by zero y within is p = inl (subst P (sym is) p)
    by (suc k) y within is p = inr (k, y, omega arith, is, p)

pub any_none : {X : Type 0} (P : X → Type 0) → Any P [] → ⊥
any_none P h = let within = h.2 in omega arith

pub any_weaker : {X : Type 0} (P Q : X → Type 0) → ((x : X) → P x → Q x) → (xs : List X) → Any P xs → Any Q xs
any_weaker P Q f xs h = (h.0, h.1, h.2, h.3, f h.1 h.4)

-- ---- a test

module _ {X : Type 0} (p : X → Bool) (Q : X → Type 0) where
  pub any_true : ((x : X) → p x ≡ true → Q x) → (xs : List X) → list_any p xs ≡ true → Any Q xs
  any_true f [] h = absurd (cc)
  any_true f (x ∷ xs) h = by (p x) refl h (any_true f xs)
    where
      by : (b : Bool) → p x ≡ b → (b || list_any p xs) ≡ true → (list_any p xs ≡ true → Any Q xs) → Any Q (x ∷ xs)
      by true e h later = any_here Q x xs (f x e)
      by false e h later = any_later Q x xs (later h)

  pub any_so : ((x : X) → Q x → p x ≡ true) → (xs : List X) → Any Q xs → list_any p xs ≡ true
  any_so f [] h = absurd (any_none Q h)
  any_so f (x ∷ xs) h = elim (any_cases Q x xs h) [
    | inl q ↦ rw (f x q) refl
    | inr more ↦ by (p x) (any_so f xs more)
  ]
    where
      by : (b : Bool) → list_any p xs ≡ true → (b || list_any p xs) ≡ true
      by true e = refl
      by false e = e

  pub all_false : ((x : X) → p x ≡ false → Q x) → (xs : List X) → list_any p xs ≡ false → All Q xs
  all_false f [] h = All-nil Q
  all_false f (x ∷ xs) h = by (p x) refl h (all_false f xs)
    where
      by : (b : Bool) → p x ≡ b → (b || list_any p xs) ≡ false → (list_any p xs ≡ false → All Q xs) → All Q (x ∷ xs)
      by true e h later = absurd (cc)
      by false e h later = All-cons Q x xs (f x e) (later h)

  pub all_so : ((x : X) → Q x → p x ≡ false) → (xs : List X) → All Q xs → list_any p xs ≡ false
  all_so f [] h = refl
  all_so f (x ∷ xs) h = rw (f x (All-head Q x xs h)) (all_so f xs (All-tail Q x xs h))

-- ---- in turn

module _ {A B E : Type 0} (f : A → Result B E) where
  abbrev pub Answered : List A → List B → Type 0
  Answered xs ys = AllZip (λ x y. f x ≡ Ok y) xs ys

  -- each element is answered, or one is refused
  abbrev pub Turned : List B → List A → Type 0
  Turned done xs =
      ((ys : List B) × (Answered xs ys) × (in_turn f done xs ≡ Ok (done ++ ys))) ⊎ ((why : E) × (Any (λ x. f x ≡ Err why) xs) × (in_turn f done xs ≡ Err why))

  pub turned : (done : List B) (xs : List A) → Turned done xs
  unfolding in_turn
  turned done [] = inl ([], tt, ap Ok (sym (append-nil done)))
  turned done (x ∷ xs) = by (f x) refl (λ y. turned (done ++ y ∷ []) xs)
    where
      by : (r : Result B E) → f x ≡ r → ((y : B) → Turned (done ++ y ∷ []) xs) → Turned done (x ∷ xs)
      by (Err why) is later = inr (why, any_here (λ z. f z ≡ Err why) x xs is, rw is refl)
      by (Ok y) is later = elim (later y) [
        | inl w ↦ inl (y ∷ w.0, (is, w.1), rw is (w.2 ∙ ap Ok (append_assoc done (y ∷ []) w.0)))
        | inr w ↦ inr (w.0, any_later (λ z. f z ≡ Err w.0) x xs w.1, rw is w.2)
      ]

  pub answered_in_turn : (done : List B) (xs : List A) (ys : List B) → Answered xs ys → in_turn f done xs ≡ Ok (done ++ ys)
  unfolding in_turn
  answered_in_turn done [] [] h = ap Ok (sym (append-nil done))
  answered_in_turn done [] (y ∷ ys) h = absurd h
  answered_in_turn done (x ∷ xs) [] h = absurd h
  answered_in_turn done (x ∷ xs) (y ∷ ys) h = rw (h.0) (answered_in_turn (done ++ y ∷ []) xs ys h.1 ∙ ap Ok (append_assoc done (y ∷ []) ys))

  -- no element that is answered is refused
  not_both : (xs : List A) (ys : List B) → Answered xs ys → Any (λ x. (y : B) → ¬ (f x ≡ Ok y)) xs → ⊥
  not_both [] [] h refused = any_none (λ x. (y : B) → ¬ (f x ≡ Ok y)) refused
  not_both [] (y ∷ ys) h refused = h
  not_both (x ∷ xs) [] h refused = h
  not_both (x ∷ xs) (y ∷ ys) h refused = elim (any_cases (λ z. (w : B) → ¬ (f z ≡ Ok w)) x xs refused) [
    | inl never ↦ never y h.0
    | inr more ↦ not_both xs ys h.1 more
  ]

  -- where all refusals are of one kind, so is that of the elements
  pub refused_in_turn : (only : E) → ((x : A) (why : E) → f x ≡ Err why → why ≡ only) → (done : List B) (xs : List A) → Any (λ x. (y : B) → ¬ (f x ≡ Ok y)) xs → in_turn f done xs ≡ Err only
  refused_in_turn only one done xs refused = elim (turned done xs) [
    | inl w ↦ absurd (not_both xs w.0 w.1 refused)
    | inr w ↦ w.2 ∙ ap Err (one w.1.1 w.0 w.1.4)
  ]

-- what holds of each answer holds of the elements and answers at each place
pub zip_weaker : {A B : Type 0} (R S : A → B → Type 0) → ((x : A) (y : B) → R x y → S x y) → (xs : List A) (ys : List B) → AllZip R xs ys → AllZip S xs ys
zip_weaker R S f [] [] h = tt
zip_weaker R S f [] (y ∷ ys) h = h
zip_weaker R S f (x ∷ xs) [] h = h
zip_weaker R S f (x ∷ xs) (y ∷ ys) h = (f x y h.0, zip_weaker R S f xs ys h.1)
