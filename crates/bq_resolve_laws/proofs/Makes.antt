-- What walks make, where they add no function and no load; and what those make that may.
use Rattle.std.proofs.Common.{◌≡◌, ℕ, ◌+◌, List, [], ◌∷◌, ◌++◌, length, Option, Some, None, Result, Ok, Err, refl, sym, ap, ◌∙◌, subst, length-append}
use Rattle.bq_base.specs.declared.fault.NameFault.{NameFault}
use Rattle.bq_base.specs.declared.fault.Fault.{Fault}
use Rattle.bq_resolve_scope.specs.declared.file.Function.{Function}
use Rattle.bq_resolve_scope.specs.declared.loads.LoadStmt.{LoadStmt}
use Rattle.bq_resolve_scope.specs.Visit.{Passed, Visit, following, ◌>>=◌, pure, given, each, optional}
use Rattle.bq_resolve_laws.specs.Resolution.{InOrder, Maybe, InTurn}

pub append_none : {A : Type 0} (xs : List A) → xs ≡ xs ++ []
append_none [] = refl
append_none (x ∷ xs) = ap (λ ys. x ∷ ys) (append_none xs)

pub append_one : {A : Type 0} (xs : List A) (y : A) (ys : List A) → (xs ++ y ∷ []) ++ ys ≡ xs ++ y ∷ ys
append_one [] y ys = refl
append_one (x ∷ xs) y ys = ap (λ zs. x ∷ zs) (append_one xs y ys)

pub append_all : {A : Type 0} (xs ys zs : List A) → (xs ++ ys) ++ zs ≡ xs ++ (ys ++ zs)
append_all [] ys zs = refl
append_all (x ∷ xs) ys zs = ap (λ ws. x ∷ ws) (append_all xs ys zs)

-- ---- walks that add no function and no load

-- what a walk from here gave holds `P`, and it added no function and no load
abbrev pub Making : {A : Type 0} → (A → Type 0) → Passed → Result (A × Passed) (Fault NameFault) → Type 0
Making P s (Err why) = Unit {0}
Making P s (Ok p) = P p.0 × (p.1.functions ≡ s.functions) × (p.1.loads ≡ s.loads)

-- what a walk makes holds `P`, wherever it begins
abbrev pub Makes : {A : Type 0} → (A → Type 0) → Visit A → Type 0
Makes {A = A} P v = (s : Passed) → Making {A = A} P s (v s)

pub from : {A : Type 0} (P : A → Type 0) (s u : Passed) (r : Result (A × Passed) (Fault NameFault)) → u.functions ≡ s.functions → u.loads ≡ s.loads → Making {A = A} P u r → Making {A = A} P s r
from P s u (Err why) f l h = tt
from P s u (Ok p) f l h = (h.0, h.1 ∙ f, h.2 ∙ l)

then_by : {A B : Type 0} (P : A → Type 0) (Q : B → Type 0) (s : Passed) (r : Result (A × Passed) (Fault NameFault)) (go : A → Visit B) → Making {A = A} P s r → ((x : A) → P x → Makes {A = B} Q (go x))
    → Making {A = B} Q s (following r go)
then_by P Q s (Err why) go h next = tt
then_by P Q s (Ok p) go h next = from Q s p.1 (go p.0 p.1) h.1 h.2 (next p.0 h.0 p.1)

pub makes_bind : {A B : Type 0} (P : A → Type 0) (Q : B → Type 0) (v : Visit A) (go : A → Visit B) → Makes {A = A} P v → ((x : A) → P x → Makes {A = B} Q (go x)) → Makes {A = B} Q (v >>= go)
makes_bind P Q v go first next s = then_by P Q s (v s) go (first s) next

weaker_by : {A : Type 0} (P Q : A → Type 0) (s : Passed) (r : Result (A × Passed) (Fault NameFault)) → ((x : A) → P x → Q x) → Making {A = A} P s r → Making {A = A} Q s r
weaker_by P Q s (Err why) w h = tt
weaker_by P Q s (Ok p) w h = (w p.0 h.0, h.1, h.2)

pub makes_weaker : {A : Type 0} (P Q : A → Type 0) (v : Visit A) → ((x : A) → P x → Q x) → Makes {A = A} P v → Makes {A = A} Q v
makes_weaker P Q v w h s = weaker_by P Q s (v s) w (h s)

pub makes_map : {A B : Type 0} (P : A → Type 0) (v : Visit A) (make : A → B) → Makes {A = A} P v → Makes {A = B} (λ z. (x : A) × P x × (z ≡ make x)) (v >>= λ x. pure (make x))
makes_map {A} {B} P v make one = makes_bind P (λ z. (x : A) × P x × (z ≡ make x)) v (λ x. pure (make x)) one (λ x p s. ((x, p, refl), refl, refl))

pub makes_two : {A B C : Type 0} (P : A → Type 0) (Q : B → Type 0) (v : Visit A) (u : Visit B) (make : A → B → C) → Makes {A = A} P v → Makes {A = B} Q u
    → Makes {A = C} (λ z. (x : A) × (y : B) × P x × Q y × (z ≡ make x y)) (v >>= λ x. u >>= λ y. pure (make x y))
makes_two {A} {B} {C} P Q v u make one two =
    let R : C → Type 0 = λ z. (x : A) × (y : B) × P x × Q y × (z ≡ make x y) in
    makes_bind P R v (λ x. u >>= λ y. pure (make x y)) one (λ x p. makes_bind Q R u (λ y. pure (make x y)) two (λ y q s. ((x, y, p, q, refl), refl, refl)))

pub makes_three : {A B C D : Type 0} (P : A → Type 0) (Q : B → Type 0) (R : C → Type 0) (v : Visit A) (u : Visit B) (w : Visit C) (make : A → B → C → D) → Makes {A = A} P v → Makes {A = B} Q u → Makes {A = C} R w
    → Makes {A = D} (λ z. (x : A) × (y : B) × (t : C) × P x × Q y × R t × (z ≡ make x y t)) (v >>= λ x. u >>= λ y. w >>= λ t. pure (make x y t))
makes_three {A} {B} {C} {D} P Q R v u w make one two three =
    let S : D → Type 0 = λ z. (x : A) × (y : B) × (t : C) × P x × Q y × R t × (z ≡ make x y t) in
    makes_bind P S v (λ x. u >>= λ y. w >>= λ t. pure (make x y t)) one
    (λ x p. makes_bind Q S u (λ y. w >>= λ t. pure (make x y t)) two (λ y q. makes_bind R S w (λ t. pure (make x y t)) three (λ t r s. ((x, y, t, p, q, r, refl), refl, refl))))

pub makes_given : {A : Type 0} (why : Fault NameFault) (o : Option A) → Makes {A = A} (λ x. o ≡ Some x) (given why o)
makes_given why None s = tt
makes_given why (Some x) s = (refl, refl, refl)

-- these so far, and what all of those make
abbrev pub After : {A B : Type 0} → (B → A → Type 0) → List A → List B → List A → Type 0
After {A = A} R done xs zs = (ys : List A) × InOrder R xs ys × (zs ≡ done ++ ys)

pub makes_each : {A B : Type 0} (R : B → A → Type 0) (one : B → Visit A) → ((x : B) → Makes {A = A} (R x) (one x)) → (done : List A) (xs : List B) → Makes {A = List A} (After R done xs) (each one done xs)
unfolding each
makes_each R one ones done [] = λ s. (([], tt, append_none done), refl, refl)
makes_each R one ones done (x ∷ xs) =
    makes_bind (R x) (After R done (x ∷ xs)) (one x) (λ y. each one (done ++ y ∷ []) xs) (ones x)
    (λ y r. makes_weaker (After R (done ++ y ∷ []) xs) (After R done (x ∷ xs)) (each one (done ++ y ∷ []) xs) (λ zs a. (y ∷ a.0, (r, a.1), a.2 ∙ append_one done y a.0)) (makes_each R one ones (done ++ y ∷ []) xs))

pub makes_all : {A B : Type 0} (R : B → A → Type 0) (one : B → Visit A) → ((x : B) → Makes {A = A} (R x) (one x)) → (xs : List B) → Makes {A = List A} (λ ys. InOrder R xs ys) (each one [] xs)
makes_all R one ones xs =
    makes_weaker (After R [] xs) (λ ys. InOrder R xs ys) (each one [] xs) (λ zs a. subst (λ ys. InOrder R xs ys) (sym a.2) a.1) (makes_each R one ones [] xs)

pub in_order_both : {A B : Type 0} (R : A → B → Type 0) (xs zs : List A) (ys ws : List B) → InOrder R xs ys → InOrder R zs ws → InOrder R (xs ++ zs) (ys ++ ws)
in_order_both R [] zs [] ws h k = k
in_order_both R (x ∷ xs) zs (y ∷ ys) ws h k = (h.0, in_order_both R xs zs ys ws h.1 k)
in_order_both R [] zs (y ∷ ys) ws h k = absurd h
in_order_both R (x ∷ xs) zs [] ws h k = absurd h

pub makes_optional : {A B : Type 0} (R : B → A → Type 0) (one : B → Visit A) → ((x : B) → Makes {A = A} (R x) (one x)) → (o : Option B) → Makes {A = Option A} (λ y. Maybe R o y) (optional one o)
makes_optional R one ones None = λ s. (tt, refl, refl)
makes_optional {A = A} R one ones (Some x) =
    makes_weaker (λ z. (y : A) × R x y × (z ≡ Some y)) (λ z. Maybe R (Some x) z) (one x >>= λ y. pure (Some y)) (λ z a. subst (λ w. Maybe R (Some x) w) (sym a.2) a.1) (makes_map (R x) (one x) (λ y. Some y) (ones x))

-- ---- walks that add these functions and loads

-- a walk from here added these functions and loads: `P` holds of them, of what it made, and of how many functions stood before
abbrev pub Gaining : {A : Type 0} → (ℕ → A → List Function → List LoadStmt → Type 0) → Passed → Result (A × Passed) (Fault NameFault) → Type 0
Gaining P s (Err why) = Unit {0}
Gaining P s (Ok p) = (f : List Function) × (l : List LoadStmt) × P (length s.functions) p.0 f l × (p.1.functions ≡ s.functions ++ f) × (p.1.loads ≡ s.loads ++ l)

-- the same of a walk, wherever it begins
abbrev pub Gains : {A : Type 0} → (ℕ → A → List Function → List LoadStmt → Type 0) → Visit A → Type 0
Gains {A = A} P v = (s : Passed) → Gaining {A = A} P s (v s)

made_by : {A : Type 0} (P : A → Type 0) (Q : ℕ → A → List Function → List LoadStmt → Type 0) (s : Passed) (r : Result (A × Passed) (Fault NameFault)) → ((k : ℕ) (x : A) → P x → Q k x [] []) → Making {A = A} P s r
    → Gaining {A = A} Q s r
made_by P Q s (Err why) w h = tt
made_by P Q s (Ok p) w h = ([], [], w (length s.functions) p.0 h.0, h.1 ∙ append_none s.functions, h.2 ∙ append_none s.loads)

-- one that adds none
pub gains_none : {A : Type 0} (P : A → Type 0) (Q : ℕ → A → List Function → List LoadStmt → Type 0) (v : Visit A) → ((k : ℕ) (x : A) → P x → Q k x [] []) → Makes {A = A} P v → Gains {A = A} Q v
gains_none P Q v w h s = made_by P Q s (v s) w (h s)

mapped_by : {A B : Type 0} (P : ℕ → A → List Function → List LoadStmt → Type 0) (make : A → B) (s : Passed) (r : Result (A × Passed) (Fault NameFault)) → Gaining {A = A} P s r
    → Gaining {A = B} (λ k z f l. (x : A) × P k x f l × (z ≡ make x)) s (following r (λ x. pure (make x)))
mapped_by P make s (Err why) h = tt
mapped_by P make s (Ok p) h = (h.0, h.1, (p.0, h.2, refl), h.3, h.4)

pub gains_map : {A B : Type 0} (P : ℕ → A → List Function → List LoadStmt → Type 0) (v : Visit A) (make : A → B) → Gains {A = A} P v
    → Gains {A = B} (λ k z f l. (x : A) × P k x f l × (z ≡ make x)) (v >>= λ x. pure (make x))
gains_map P v make h s = mapped_by P make s (v s) (h s)

pub gains_weaker : {A : Type 0} (P Q : ℕ → A → List Function → List LoadStmt → Type 0) (s : Passed) (r : Result (A × Passed) (Fault NameFault))
    → ((k : ℕ) (x : A) (f : List Function) (l : List LoadStmt) → P k x f l → Q k x f l) → Gaining {A = A} P s r → Gaining {A = A} Q s r
gains_weaker P Q s (Err why) w h = tt
gains_weaker P Q s (Ok p) w h = (h.0, h.1, w (length s.functions) p.0 h.0 h.1 h.2, h.3, h.4)

-- these so far, and what all of those make, one after the other
abbrev pub Turns : {A B : Type 0} → (ℕ → B → A → List Function → List LoadStmt → Type 0) → List A → List B → ℕ → List A → List Function → List LoadStmt → Type 0
Turns {A = A} R done xs k zs f l = (ys : List A) × InTurn R k xs ys f l × (zs ≡ done ++ ys)

length_of : {A : Type 0} (xs ys : List A) → length (xs ++ ys) ≡ length xs + length ys
length_of xs ys = length-append xs ys

rest_by : {A B : Type 0} (R : ℕ → B → A → List Function → List LoadStmt → Type 0) (x : B) (xs : List B) (done : List A) (y : A) (s u : Passed) (f : List Function) (l : List LoadStmt) (r : Result (List A × Passed) (Fault NameFault))
    → R (length s.functions) x y f l → u.functions ≡ s.functions ++ f → u.loads ≡ s.loads ++ l → Gaining {A = List A} (Turns R (done ++ y ∷ []) xs) u r → Gaining {A = List A} (Turns R done (x ∷ xs)) s r
rest_by R x xs done y s u f l (Err why) first ef el h = tt
rest_by R x xs done y s u f l (Ok p) first ef el h =
    let count : length u.functions ≡ length s.functions + length f = ap length ef ∙ length_of s.functions f in
    let turn : InTurn R (length s.functions + length f) xs h.2.0 h.0 h.1 = subst (λ k. InTurn R k xs h.2.0 h.0 h.1) count h.2.1 in (
      f ++ h.0,
      l ++ h.1,
      (y ∷ h.2.0, (y, h.2.0, f, h.0, l, h.1, first, turn, refl, refl, refl), h.2.2 ∙ append_one done y h.2.0),
      h.3 ∙ ap (λ z. z ++ h.0) ef ∙ append_all s.functions f h.0,
      h.4 ∙ ap (λ z. z ++ h.1) el ∙ append_all s.loads l h.1,
    )

turn_by : {A B : Type 0} (R : ℕ → B → A → List Function → List LoadStmt → Type 0) (x : B) (xs : List B) (done : List A) (s : Passed) (r : Result (A × Passed) (Fault NameFault)) (go : A → Visit (List A))
    → Gaining {A = A} (λ k y f l. R k x y f l) s r → ((y : A) → Gains {A = List A} (Turns R (done ++ y ∷ []) xs) (go y)) → Gaining {A = List A} (Turns R done (x ∷ xs)) s (following r go)
turn_by R x xs done s (Err why) go h next = tt
turn_by R x xs done s (Ok p) go h next = rest_by R x xs done p.0 s p.1 h.0 h.1 (go p.0 p.1) h.2 h.3 h.4 (next p.0 p.1)

pub gains_each : {A B : Type 0} (R : ℕ → B → A → List Function → List LoadStmt → Type 0) (one : B → Visit A) → ((x : B) → Gains {A = A} (λ k y f l. R k x y f l) (one x)) → (done : List A) (xs : List B)
    → Gains {A = List A} (Turns R done xs) (each one done xs)
unfolding each
gains_each R one ones done [] s = ([], [], ([], (refl, refl, refl), append_none done), append_none s.functions, append_none s.loads)
gains_each R one ones done (x ∷ xs) s = turn_by R x xs done s (one x s) (λ y. each one (done ++ y ∷ []) xs) (ones x s) (λ y. gains_each R one ones (done ++ y ∷ []) xs)

gains_from : {A : Type 0} (P : ℕ → A → List Function → List LoadStmt → Type 0) (s u : Passed) (r : Result (A × Passed) (Fault NameFault)) → u.functions ≡ s.functions → u.loads ≡ s.loads → Gaining {A = A} P u r → Gaining {A = A} P s r
gains_from P s u (Err why) ef el h = tt
gains_from P s u (Ok p) ef el h =
    (h.0, h.1, subst (λ k. P k p.0 h.0 h.1) (ap length ef) h.2, h.3 ∙ ap (λ z. z ++ h.0) ef, h.4 ∙ ap (λ z. z ++ h.1) el)

gains_by : {A B : Type 0} (P : A → Type 0) (Q : ℕ → B → List Function → List LoadStmt → Type 0) (s : Passed) (r : Result (A × Passed) (Fault NameFault)) (go : A → Visit B) → Making {A = A} P s r
    → ((x : A) → P x → Gains {A = B} Q (go x)) → Gaining {A = B} Q s (following r go)
gains_by P Q s (Err why) go h next = tt
gains_by P Q s (Ok p) go h next = gains_from Q s p.1 (go p.0 p.1) h.1 h.2 (next p.0 h.0 p.1)

-- after one that adds none
pub gains_bind : {A B : Type 0} (P : A → Type 0) (Q : ℕ → B → List Function → List LoadStmt → Type 0) (v : Visit A) (go : A → Visit B) → Makes {A = A} P v → ((x : A) → P x → Gains {A = B} Q (go x))
    → Gains {A = B} Q (v >>= go)
gains_bind P Q v go first next s = gains_by P Q s (v s) go (first s) next
