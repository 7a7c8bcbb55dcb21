-- What steps that succeed say of each of them, and of the last one.
use Rattle.std.proofs.Common.{◌≡◌, ◌∙◌, ◌-◌, Bool, true, false, cond, List, [], ◌∷◌, ◌++◌, length, get_or, Some, Result, Ok, Err, refl, sym, ap, subst, arith}
use Rattle.std.specs.Prelude.{slice_get}
use Rattle.std.specs.Option.{ForSome}
use Rattle.std.specs.List.{list_all}
use Rattle.std.proofs.lemmas.List.{get_or_push, length_push}
use Rattle.std.proofs.lemmas.List.Folds.{list_all-append}
use Rattle.std.proofs.lemmas.Option.{get_or_from_slice_get}
use Rattle.bq_package_values.specs.Steps.{and_then, in_turn}

pub both_ok : {A B E : Type 0} (r : Result A E) (next : A → Result B E) (y : B) → and_then r next ≡ Ok y → (x : A) × (r ≡ Ok x) × (next x ≡ Ok y)
both_ok (Ok x) next y h = (x, refl, h)
both_ok (Err why) next y h = absurd (cc)

pub then_ok : {A E : Type 0} (b : Bool) (x y : A) (why : E) → cond b (Ok x) (Err why) ≡ Ok y → x ≡ y
then_ok true x y why h = cc
then_ok false x y why h = absurd (cc)

pub else_ok : {A E : Type 0} (b : Bool) (x y : A) (why : E) → cond b (Err why) (Ok x) ≡ Ok y → x ≡ y
else_ok true x y why h = absurd (cc)
else_ok false x y why h = cc

pub then_true : {A E : Type 0} (b : Bool) (x y : A) (why : E) → cond b (Ok x) (Err why) ≡ Ok y → b ≡ true
then_true true x y why h = refl
then_true false x y why h = absurd (cc)

pub all_more : {A : Type 0} (p : A → Bool) (xs : List A) (x : A) → list_all p xs ≡ true → p x ≡ true → list_all p (xs ++ x ∷ []) ≡ true
all_more p xs x h e = rw (list_all-append p xs (x ∷ []), h, e) refl

-- what holds of each answer holds of all
pub each_passes : {A B E : Type 0} (f : A → Result B E) (p : B → Bool) → ((x : A) (y : B) → f x ≡ Ok y → p y ≡ true) → (done : List B) (xs : List A) (ys : List B)
    → in_turn f done xs ≡ Ok ys → list_all p done ≡ true → list_all p ys ≡ true
unfolding in_turn
each_passes f p each done [] ys h past = let e : done ≡ ys = cc in rw (← e) past
each_passes f p each done (x ∷ xs) ys h past =
    let r = both_ok (f x) (λ y. in_turn f (done ++ y ∷ []) xs) ys h in
    each_passes f p each (done ++ r.0 ∷ []) xs ys r.2 (all_more p done r.0 past (each x r.0 r.1))

pub of_some : {A : Type 0} (P : A → Type 0) (x : A) → P x → ForSome (Some x) P
of_some P x h y e = let same : x ≡ y = cc in subst P same h

-- what holds of an element that is pushed holds of the last one
pub of_last : {A : Type 0} (P : A → Type 0) (xs ys : List A) (x : A) → ys ≡ xs ++ x ∷ [] → P x → ForSome (slice_get ys (length ys - 1)) P
of_last P xs ys x is h y e =
    let at : length xs ≡ length ys - 1 = omega (arith, ap length is ∙ length_push xs x) in
    let same : x ≡ y = sym (get_or_push xs x y (length ys - 1) at) ∙ (ap (λ (zs : List _). get_or zs (length ys - 1) y) (sym is) ∙ get_or_from_slice_get ys (length ys - 1) y y e) in
    subst P same h
