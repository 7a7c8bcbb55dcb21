-- Walks whose faults are of names alone, so none is F11.
use Rattle.std.proofs.Common.{◌≡◌, ◌≤◌, refl, ℕ, Bool, true, false, List, [], ◌∷◌, ◌++◌, map, Option, Some, None, Result, Ok, Err, arith}
use Rattle.std.specs.Prelude.{if◌then◌else◌}
use Rattle.bq_base.specs.declared.fault.NameFault.{NameFault}
use Rattle.bq_base.specs.declared.fault.Fault.{Fault}
use Rattle.bq_base.specs.declared.fault.NameFault.TheVariants as f
use Rattle.bq_parse_laws.specs.Depth.{deepest}
use Rattle.bq_resolve_scope.specs.Visit.{Passed, Visit, following, ◌>>=◌, pure, stop, given, each, optional}

-- F20 to F24
abbrev pub is_of_names : NameFault → Bool
is_of_names f.Nesting = false
is_of_names f.UnknownName = true
is_of_names f.Rebound = true
is_of_names f.BoundTwice = true
is_of_names f.BadFlow = true
is_of_names f.DoubleParameter = true

abbrev pub IsCalm : {A : Type 0} → Result (A × Passed) (Fault NameFault) → Type 0
IsCalm (Ok p) = Unit {0}
IsCalm (Err why) = is_of_names why.kind ≡ true

abbrev pub Calm : {A : Type 0} → Visit A → Type 0
Calm {A = A} v = (s : Passed) → IsCalm {A = A} (v s)

-- ---- faults of names

pub unknown_is_named : is_of_names f.UnknownName ≡ true
unknown_is_named = refl

pub rebound_is_named : is_of_names f.Rebound ≡ true
rebound_is_named = refl

pub twice_is_named : is_of_names f.BoundTwice ≡ true
twice_is_named = refl

pub flow_is_named : is_of_names f.BadFlow ≡ true
flow_is_named = refl

pub double_is_named : is_of_names f.DoubleParameter ≡ true
double_is_named = refl

-- ---- walks

pub after : {A B : Type 0} (r : Result (A × Passed) (Fault NameFault)) (go : A → Visit B) → IsCalm {A = A} r → ((x : A) → Calm {A = B} (go x)) → IsCalm {A = B} (following r go)
after (Err why) go h next = h
after (Ok p) go h next = next p.0 p.1

pub calm_bind : {A B : Type 0} (v : Visit A) (go : A → Visit B) → Calm {A = A} v → ((x : A) → Calm {A = B} (go x)) → Calm {A = B} (v >>= go)
calm_bind v go first next s = after (v s) go (first s) next

-- ---- walks in a row, and something made of what they make

pub calm_map : {A B : Type 0} (v : Visit A) (make : A → B) → Calm {A = A} v → Calm {A = B} (v >>= λ x. pure (make x))
calm_map v make first = calm_bind v (λ x. pure (make x)) first (λ x s. tt)

pub calm_two : {A B C : Type 0} (v : Visit A) (u : Visit B) (make : A → B → C) → Calm {A = A} v → Calm {A = B} u → Calm {A = C} (v >>= λ x. u >>= λ y. pure (make x y))
calm_two v u make first second = calm_bind v (λ x. u >>= λ y. pure (make x y)) first (λ x. calm_map u (make x) second)

pub calm_three : {A B C D : Type 0} (v : Visit A) (u : Visit B) (w : Visit C) (make : A → B → C → D) → Calm {A = A} v → Calm {A = B} u → Calm {A = C} w
    → Calm {A = D} (v >>= λ x. u >>= λ y. w >>= λ z. pure (make x y z))
calm_three v u w make first second third = calm_bind v (λ x. u >>= λ y. w >>= λ z. pure (make x y z)) first (λ x. calm_two u w (make x) second third)

pub calm_given : {A : Type 0} (why : Fault NameFault) (o : Option A) → is_of_names why.kind ≡ true → Calm {A = A} (given why o)
calm_given why None h s = h
calm_given why (Some x) h s = tt

-- a fault, or what is made
pub calm_if : {A : Type 0} (b : Bool) (why : Fault NameFault) (p : A × Passed) → is_of_names why.kind ≡ true → IsCalm {A = A} (if b then Err why else Ok p)
calm_if true why p h = h
calm_if false why p h = tt

pub calm_choice : {A : Type 0} (b : Bool) (why : Fault NameFault) (x : A) (u : Passed) → is_of_names why.kind ≡ true → IsCalm {A = A} (let go : Visit A = if b then stop why else pure x in go u)
calm_choice true why x u h = h
calm_choice false why x u h = tt

-- ---- lists

pub calm_all : {A B : Type 0} (one : B → Visit A) → ((x : B) → Calm {A = A} (one x)) → (done : List A) (xs : List B) → Calm {A = List A} (each one done xs)
unfolding each
calm_all one ones done [] = λ s. tt
calm_all one ones done (x ∷ xs) = calm_bind (one x) (λ y. each one (done ++ y ∷ []) xs) (ones x) (λ y. calm_all one ones (done ++ y ∷ []) xs)

-- of trees that are no deeper
pub calm_each : {A B : Type 0} (depth : B → ℕ) (n : ℕ) (one : B → Visit A) → ((x : B) → depth x ≤ n → Calm {A = A} (one x)) → (done : List A) (xs : List B) → deepest (map depth xs) ≤ n
    → Calm {A = List A} (each one done xs)
unfolding each
calm_each depth n one ones done [] h = λ s. tt
calm_each depth n one ones done (x ∷ xs) h =
    let a : depth x ≤ n = omega arith in
    let b : deepest (map depth xs) ≤ n = omega arith in
    calm_bind (one x) (λ y. each one (done ++ y ∷ []) xs) (ones x a) (λ y. calm_each depth n one ones (done ++ y ∷ []) xs b)

-- of what may be absent
abbrev pub part : {A : Type 0} → (A → ℕ) → Option A → ℕ
part depth None = 0
part depth (Some x) = depth x

pub calm_optional : {A B : Type 0} (depth : B → ℕ) (n : ℕ) (one : B → Visit A) → ((x : B) → depth x ≤ n → Calm {A = A} (one x)) → (o : Option B) → part depth o ≤ n → Calm {A = Option A} (optional one o)
calm_optional depth n one ones None h = λ s. tt
calm_optional depth n one ones (Some x) h = calm_map (one x) (λ y. Some y) (ones x h)
