-- Walks that give what something holds of, and leave functions of which something holds where those before them do.
use Rattle.std.proofs.Common.{◌≡◌, ◌∙◌, List, [], ◌∷◌, ◌++◌, map, append-nil, Option, Some, None, Result, Ok, Err, refl, sym, ap}
use Rattle.std.specs.List.{AllByRecursion}
use Rattle.std.specs.Option.{option_map}
use Rattle.bq_base.specs.declared.fault.NameFault.{NameFault}
use Rattle.bq_base.specs.declared.fault.Fault.{Fault}
use Rattle.bq_resolve_scope.specs.declared.file.Function.{Function}
use Rattle.bq_resolve_scope.specs.Visit.{Passed, Visit, following, ◌>>=◌, pure, given, each, optional}

pub and_last : {A : Type 0} (P : A → Type 0) (xs : List A) (y : A) → AllByRecursion P xs → P y → AllByRecursion P (xs ++ y ∷ [])
and_last P [] y h k = (k, tt)
and_last P (x ∷ xs) y h k = (h.0, and_last P xs y h.1 k)

-- what is the same of one more
joined : {A B R : Type 0} (g : A → R) (h : B → R) (done : List A) (y : A) (x : B) (xs : List B) → g y ≡ h x → map g (done ++ y ∷ []) ++ map h xs ≡ map g done ++ h x ∷ map h xs
joined g h [] y x xs e = ap (λ z. z ∷ map h xs) e
joined g h (d ∷ ds) y x xs e = ap (λ l. g d ∷ l) (joined g h ds y x xs e)

-- `F` holds of each function
module _ (F : Function → Type 0) where
  abbrev pub FunctionsAre : Passed → Type 0
  FunctionsAre s = AllByRecursion F s.functions

  abbrev pub Giving : {A : Type 0} → (A → Type 0) → Result (A × Passed) (Fault NameFault) → Type 0
  Giving P (Err why) = Unit {0}
  Giving P (Ok p) = P p.0 × FunctionsAre p.1

  abbrev pub Gives : {A : Type 0} → (A → Type 0) → Visit A → Type 0
  Gives {A = A} P v = (s : Passed) → FunctionsAre s → Giving {A = A} P (v s)

  then_by : {A B : Type 0} (P : A → Type 0) (Q : B → Type 0) (r : Result (A × Passed) (Fault NameFault)) (go : A → Visit B) → Giving {A = A} P r → ((x : A) → P x → Gives {A = B} Q (go x)) → Giving {A = B} Q (following r go)
  then_by P Q (Err why) go h next = tt
  then_by P Q (Ok p) go h next = next p.0 h.0 p.1 h.1

  pub gives_bind : {A B : Type 0} (P : A → Type 0) (Q : B → Type 0) (v : Visit A) (go : A → Visit B) → Gives {A = A} P v → ((x : A) → P x → Gives {A = B} Q (go x)) → Gives {A = B} Q (v >>= go)
  gives_bind P Q v go first next s fit = then_by P Q (v s) go (first s fit) next

  giving_as : {A : Type 0} (P Q : A → Type 0) → ((x : A) → P x → Q x) → (r : Result (A × Passed) (Fault NameFault)) → Giving {A = A} P r → Giving {A = A} Q r
  giving_as P Q weaker (Err why) h = tt
  giving_as P Q weaker (Ok p) h = (weaker p.0 h.0, h.1)

  pub gives_as : {A : Type 0} (P Q : A → Type 0) → ((x : A) → P x → Q x) → (v : Visit A) → Gives {A = A} P v → Gives {A = A} Q v
  gives_as P Q weaker v h s fit = giving_as P Q weaker (v s) (h s fit)

  -- ---- walks in a row, and something made of what they give

  pub gives_map : {A B : Type 0} (P : A → Type 0) (Q : B → Type 0) (v : Visit A) (make : A → B) → Gives {A = A} P v → ((x : A) → P x → Q (make x)) → Gives {A = B} Q (v >>= λ x. pure (make x))
  gives_map P Q v make first made = gives_bind P Q v (λ x. pure (make x)) first (λ x h s fit. (made x h, fit))

  pub gives_two : {A B C : Type 0} (P : A → Type 0) (Q : B → Type 0) (R : C → Type 0) (v : Visit A) (u : Visit B) (make : A → B → C) → Gives {A = A} P v → Gives {A = B} Q u
      → ((x : A) (y : B) → P x → Q y → R (make x y)) → Gives {A = C} R (v >>= λ x. u >>= λ y. pure (make x y))
  gives_two P Q R v u make first second made =
      gives_bind P R v (λ x. u >>= λ y. pure (make x y)) first (λ x h. gives_map Q R u (make x) second (λ y k. made x y h k))

  pub gives_three : {A B C D : Type 0} (P : A → Type 0) (Q : B → Type 0) (R : C → Type 0) (S : D → Type 0) (v : Visit A) (u : Visit B) (w : Visit C) (make : A → B → C → D)
      → Gives {A = A} P v → Gives {A = B} Q u → Gives {A = C} R w → ((x : A) (y : B) (z : C) → P x → Q y → R z → S (make x y z))
      → Gives {A = D} S (v >>= λ x. u >>= λ y. w >>= λ z. pure (make x y z))
  gives_three P Q R S v u w make first second third made =
      gives_bind P S v (λ x. u >>= λ y. w >>= λ z. pure (make x y z)) first (λ x h. gives_two Q R S u w (make x) second third (λ y z k l. made x y z h k l))

  -- of what may be unknown
  pub gives_given : {A : Type 0} (why : Fault NameFault) (o : Option A) → Gives {A = A} (λ x. Unit {0}) (given why o)
  gives_given why None s fit = tt
  gives_given why (Some x) s fit = (tt, fit)

  -- ---- lists

  -- of each the same is measured as of what it is made of
  pub gives_each : {A B R : Type 0} (g : A → R) (h : B → R) (one : B → Visit A) → ((x : B) → Gives {A = A} (λ y. g y ≡ h x) (one x)) → (done : List A) (xs : List B)
      → Gives {A = List A} (λ ys. map g ys ≡ map g done ++ map h xs) (each one done xs)
  unfolding each
  gives_each g h one ones done [] = λ s fit. (sym (append-nil (map g done)), fit)
  gives_each {A = A} g h one ones done (x ∷ xs) =
      gives_bind (λ y. g y ≡ h x) (λ ys. map g ys ≡ map g done ++ h x ∷ map h xs) (one x) (λ y. each one (done ++ y ∷ []) xs) (ones x)
      (λ y e. gives_as {A = List A} (λ ys. map g ys ≡ map g (done ++ y ∷ []) ++ map h xs) (λ ys. map g ys ≡ map g done ++ h x ∷ map h xs) (λ ys k. k ∙ joined g h done y x xs e)
      (each one (done ++ y ∷ []) xs) (gives_each g h one ones (done ++ y ∷ []) xs))

  -- `P` holds of each, if `Q` does of what it is made of
  pub gives_every : {A B : Type 0} (P : A → Type 0) (Q : B → Type 0) (one : B → Visit A) → ((x : B) → Q x → Gives {A = A} P (one x)) → (done : List A) (xs : List B) → AllByRecursion P done
      → AllByRecursion Q xs → Gives {A = List A} (λ ys. AllByRecursion P ys) (each one done xs)
  unfolding each
  gives_every P Q one ones done [] so_far all = λ s fit. (so_far, fit)
  gives_every P Q one ones done (x ∷ xs) so_far all =
      gives_bind P (λ ys. AllByRecursion P ys) (one x) (λ y. each one (done ++ y ∷ []) xs) (ones x all.0)
      (λ y k. gives_every P Q one ones (done ++ y ∷ []) xs (and_last P done y so_far k) all.1)

  -- of what may be absent
  pub gives_optional : {A B R : Type 0} (g : A → R) (h : B → R) (one : B → Visit A) → ((x : B) → Gives {A = A} (λ y. g y ≡ h x) (one x)) → (o : Option B)
      → Gives {A = Option A} (λ y. option_map g y ≡ option_map h o) (optional one o)
  gives_optional g h one ones None = λ s fit. (refl, fit)
  gives_optional g h one ones (Some x) = gives_map (λ y. g y ≡ h x) (λ y. option_map g y ≡ option_map h (Some x)) (one x) (λ y. Some y) (ones x) (λ y k. ap Some k)
