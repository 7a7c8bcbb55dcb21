-- Walks whose fault is the first of given ones: where there is none they go on, with names bound and loaded as given.
use Rattle.std.specs.List.{flat_map}
use Rattle.std.proofs.Common.{◌≡◌, true, List, [], ◌∷◌, ◌++◌, Option, Some, None, is_some, Result, Ok, Err, inl, inr, refl, sym, subst}
use Rattle.bq_base.specs.declared.fault.NameFault.{NameFault}
use Rattle.bq_base.specs.declared.fault.Fault.{Fault}
use Rattle.bq_resolve_scope.specs.Names.{Name, has}
use Rattle.bq_resolve_scope.specs.Visit.{Passed, Visit, following, ◌>>=◌, pure, given, each, optional}
use Rattle.bq_resolve_laws.specs.Binds.{AnyOf}
use Rattle.bq_resolve_laws.specs.Violations.{first, of_part, in_turn, unless, Before}

-- the names that were passed
abbrev pub before : Passed → Before
before s = record { bound = s.bound; loaded = s.loaded }

-- the fault is the first of these; where there is none, the names are then those
abbrev pub Finding : {A : Type 0} → List (Fault NameFault) → Before → Result (A × Passed) (Fault NameFault) → Type 0
Finding faults after (Err why) = first faults ≡ Some why
Finding faults after (Ok p) = (faults ≡ []) × (before p.1 ≡ after)

-- the fault of a walk is the first of these, wherever it begins
abbrev pub Tells : {A : Type 0} → (Before → List (Fault NameFault)) → (Before → Before) → Visit A → Type 0
Tells {A = A} faults after v = (s : Passed) → Finding {A = A} (faults (before s)) (after (before s)) (v s)

-- no name is bound or loaded
abbrev pub Finds : {A : Type 0} → List (Fault NameFault) → Visit A → Type 0
Finds {A = A} faults v = Tells {A = A} (λ b. faults) (λ b. b) v

-- ---- walks in a row

pub first_left : {A : Type 0} (xs ys : List A) (x : A) → first xs ≡ Some x → first (xs ++ ys) ≡ Some x
first_left [] ys x h = absurd (let no : ⊥ = cc in no)
first_left (z ∷ zs) ys x h = h

then_by : {A B : Type 0} (r : Result (A × Passed) (Fault NameFault)) (go : A → Visit B) (faults : List (Fault NameFault)) (b : Before) (more : Before → List (Fault NameFault)) (after : Before → Before)
    → Finding {A = A} faults b r → ((x : A) → Tells {A = B} more after (go x)) → Finding {A = B} (faults ++ more b) (after b) (following r go)
then_by (Err why) go faults b more after h next = first_left faults (more b) why h
then_by {B = B} (Ok p) go faults b more after h next =
    let now : Finding {A = B} (more b) (after b) (go p.0 p.1) = subst (λ c. Finding {A = B} (more c) (after c) (go p.0 p.1)) h.1 (next p.0 p.1) in
    subst (λ xs. Finding {A = B} (xs ++ more b) (after b) (go p.0 p.1)) (sym h.0) now

pub tells_bind : {A B : Type 0} (v : Visit A) (go : A → Visit B) (faults : Before → List (Fault NameFault)) (on : Before → Before) (more : Before → List (Fault NameFault)) (after : Before → Before)
    → Tells {A = A} faults on v → ((x : A) → Tells {A = B} more after (go x)) → Tells {A = B} (λ b. faults b ++ more (on b)) (λ b. after (on b)) (v >>= go)
tells_bind v go faults on more after told next s = then_by (v s) go (faults (before s)) (on (before s)) more after (told s) next

made_by : {A B : Type 0} (r : Result (A × Passed) (Fault NameFault)) (make : A → B) (faults : List (Fault NameFault)) (b : Before) → Finding {A = A} faults b r → Finding {A = B} faults b (following r (λ x. pure (make x)))
made_by (Err why) make faults b h = h
made_by (Ok p) make faults b h = h

pub tells_map : {A B : Type 0} (v : Visit A) (make : A → B) (faults : Before → List (Fault NameFault)) (on : Before → Before) → Tells {A = A} faults on v → Tells {A = B} faults on (v >>= λ x. pure (make x))
tells_map v make faults on told s = made_by (v s) make (faults (before s)) (on (before s)) (told s)

pub tells_two : {A B C : Type 0} (v : Visit A) (u : Visit B) (make : A → B → C) (faults : Before → List (Fault NameFault)) (on : Before → Before) (more : List (Fault NameFault))
    → Tells {A = A} faults on v → Finds {A = B} more u → Tells {A = C} (λ b. faults b ++ more) on (v >>= λ x. u >>= λ y. pure (make x y))
tells_two v u make faults on more one two =
    tells_bind v (λ x. u >>= λ y. pure (make x y)) faults on (λ b. more) (λ b. b) one (λ x. tells_map u (make x) (λ b. more) (λ b. b) two)

-- ---- walks that bind nothing

pub finds_map : {A B : Type 0} (v : Visit A) (make : A → B) (F : List (Fault NameFault)) → Finds {A = A} F v → Finds {A = B} F (v >>= λ x. pure (make x))
finds_map v make F one = tells_map v make (λ b. F) (λ b. b) one

pub finds_two : {A B C : Type 0} (v : Visit A) (u : Visit B) (make : A → B → C) (F G : List (Fault NameFault)) → Finds {A = A} F v → Finds {A = B} G u
    → Finds {A = C} (F ++ G) (v >>= λ x. u >>= λ y. pure (make x y))
finds_two v u make F G one two = tells_two v u make (λ b. F) (λ b. b) G one two

pub finds_bind : {A B : Type 0} (v : Visit A) (go : A → Visit B) (F G : List (Fault NameFault)) → Finds {A = A} F v → ((x : A) → Finds {A = B} G (go x)) → Finds {A = B} (F ++ G) (v >>= go)
finds_bind v go F G one next = tells_bind v go (λ b. F) (λ b. b) (λ b. G) (λ b. b) one next

pub finds_three : {A B C D : Type 0} (v : Visit A) (u : Visit B) (w : Visit C) (make : A → B → C → D) (F G H : List (Fault NameFault)) → Finds {A = A} F v → Finds {A = B} G u → Finds {A = C} H w
    → Finds {A = D} (F ++ (G ++ H)) (v >>= λ x. u >>= λ y. w >>= λ z. pure (make x y z))
finds_three v u w make F G H one two three =
    finds_bind v (λ x. u >>= λ y. w >>= λ z. pure (make x y z)) F (G ++ H) one (λ x. finds_two u w (make x) G H two three)

pub finds_given : {A : Type 0} (why : Fault NameFault) (o : Option A) → Finds {A = A} (unless (is_some o) why) (given why o)
finds_given why None s = refl
finds_given why (Some x) s = (refl, refl)

-- ---- lists

pub finds_each : {A B : Type 0} (one : B → Visit A) (F : B → List (Fault NameFault)) → ((x : B) → Finds {A = A} (F x) (one x)) → (done : List A) (xs : List B) → Finds {A = List A} (flat_map F xs) (each one done xs)
unfolding each
finds_each one F ones done [] = λ s. (refl, refl)
finds_each one F ones done (x ∷ xs) =
    finds_bind (one x) (λ y. each one (done ++ y ∷ []) xs) (F x) (flat_map F xs) (ones x) (λ y. finds_each one F ones (done ++ y ∷ []) xs)

-- all names for which this is so are among those
abbrev pub Holds : List Name → (Name → Type 0) → Type 0
Holds names P = (name : Name) → P name → has names name ≡ true

pub finds_held : {A B : Type 0} (names : List Name) (one : B → Visit A) (F : B → List (Fault NameFault)) (P : Name → B → Type 0) → ((x : B) → Holds names (λ name. P name x) → Finds {A = A} (F x) (one x))
    → (done : List A) (xs : List B) → Holds names (λ name. AnyOf (P name) xs) → Finds {A = List A} (flat_map F xs) (each one done xs)
unfolding each
finds_held names one F P ones done [] held = λ s. (refl, refl)
finds_held names one F P ones done (x ∷ xs) held =
    finds_bind (one x) (λ y. each one (done ++ y ∷ []) xs) (F x) (flat_map F xs) (ones x (λ name p. held name (inl p)))
    (λ y. finds_held names one F P ones (done ++ y ∷ []) xs (λ name p. held name (inr p)))

-- the names after all of these
abbrev pub all_on : {A : Type 0} → (Before → A → Before) → Before → List A → Before
all_on on b [] = b
all_on on b (x ∷ xs) = all_on on (on b x) xs

pub tells_each : {A B : Type 0} (names : List Name) (one : B → Visit A) (F : Before → B → List (Fault NameFault)) (on : Before → B → Before) (P : Name → B → Type 0)
    → ((x : B) → Holds names (λ name. P name x) → Tells {A = A} (λ b. F b x) (λ b. on b x) (one x))
    → (done : List A) (xs : List B) → Holds names (λ name. AnyOf (P name) xs) → Tells {A = List A} (λ b. in_turn F on b xs) (λ b. all_on on b xs) (each one done xs)
unfolding each
tells_each names one F on P ones done [] held = λ s. (refl, refl)
tells_each names one F on P ones done (x ∷ xs) held =
    tells_bind (one x) (λ y. each one (done ++ y ∷ []) xs) (λ b. F b x) (λ b. on b x) (λ b. in_turn F on b xs) (λ b. all_on on b xs) (ones x (λ name p. held name (inl p)))
    (λ y. tells_each names one F on P ones (done ++ y ∷ []) xs (λ name p. held name (inr p)))

pub finds_optional : {A B : Type 0} (one : B → Visit A) (F : B → List (Fault NameFault)) → ((x : B) → Finds {A = A} (F x) (one x)) → (o : Option B) → Finds {A = Option A} (of_part F o) (optional one o)
finds_optional one F ones None = λ s. (refl, refl)
finds_optional one F ones (Some x) = finds_map (one x) (λ y. Some y) (F x) (ones x)

pub tells_as : {A : Type 0} (v : Visit A) (faults : Before → List (Fault NameFault)) (on off : Before → Before) → ((b : Before) → on b ≡ off b) → Tells {A = A} faults on v → Tells {A = A} faults off v
tells_as {A = A} v faults on off same told s = subst (λ b. Finding {A = A} (faults (before s)) b (v s)) (same (before s)) (told s)

pub tells_all : {A B : Type 0} (one : B → Visit A) (F : Before → B → List (Fault NameFault)) (on : Before → B → Before) → ((x : B) → Tells {A = A} (λ b. F b x) (λ b. on b x) (one x)) → (done : List A) (xs : List B)
    → Tells {A = List A} (λ b. in_turn F on b xs) (λ b. all_on on b xs) (each one done xs)
unfolding each
tells_all one F on ones done [] = λ s. (refl, refl)
tells_all one F on ones done (x ∷ xs) =
    tells_bind (one x) (λ y. each one (done ++ y ∷ []) xs) (λ b. F b x) (λ b. on b x) (λ b. in_turn F on b xs) (λ b. all_on on b xs) (ones x) (λ y. tells_all one F on ones (done ++ y ∷ []) xs)
