-- What walks make that resolve a tree: something of which `P` holds, and no slot is given back.
use Rattle.std.proofs.Common.{◌≡◌, ◌≤◌, ◌+◌, ℕ, suc, List, [], ◌∷◌, ◌++◌, length, Option, Some, None, Result, Ok, Err, refl, sym, ◌∙◌, ap, subst, arith}
use Rattle.bq_base.specs.declared.fault.NameFault.{NameFault}
use Rattle.bq_base.specs.declared.fault.Fault.{Fault}
use Rattle.bq_parse_grammar.specs.declared.tree.Identifier.{Identifier}
use Rattle.bq_parse_grammar.specs.declared.tree.Referent.{Referent}
use Rattle.bq_resolve_scope.specs.Expressions.{refer}
use Rattle.bq_resolve_scope.specs.Scope.{BlockParts}
use Rattle.bq_resolve_scope.specs.Visit.{Passed, Visit, following, ◌>>=◌, pure, given, each, optional}
use Rattle.bq_eval_by_name.specs.Shows.{Below}

-- the one to the other, in their order
abbrev pub Pairwise : {A B : Type 0} → (A → B → Type 0) → List A → List B → Type 0
Pairwise R [] [] = Unit {0}
Pairwise R (x ∷ xs) (y ∷ ys) = R x y × Pairwise R xs ys
Pairwise R _ _ = ⊥

abbrev pub Optional : {A B : Type 0} → (A → B → Type 0) → Option A → Option B → Type 0
Optional R None None = Unit {0}
Optional R (Some x) (Some y) = R x y
Optional R _ _ = ⊥

pub same_length : {A B : Type 0} (R : A → B → Type 0) (xs : List A) (ys : List B) → Pairwise R xs ys → length xs ≡ length ys
same_length R [] [] h = refl
same_length R (x ∷ xs) (y ∷ ys) h = ap (λ n. suc n) (same_length R xs ys h.1)
same_length R [] (y ∷ ys) h = absurd h
same_length R (x ∷ xs) [] h = absurd h

pub below_more : (blocks : List BlockParts) (n k : ℕ) → n ≤ k → Below blocks n → Below blocks k
below_more [] n k h b = tt
below_more (x ∷ xs) n k h b = let a : x.base + length x.names ≤ n = b.0 in (omega arith, below_more xs n k h b.1)

-- each of them
abbrev pub Every : {A : Type 0} → (A → Type 0) → List A → Type 0
Every P [] = Unit {0}
Every P (x ∷ xs) = P x × Every P xs

-- ---- walks among blocks whose slots are taken already

abbrev pub Walked : {A : Type 0} → (A → Type 0) → ℕ → Result (A × Passed) (Fault NameFault) → Type 0
Walked P slots (Err why) = Unit {0}
Walked P slots (Ok p) = (slots ≤ p.1.slots) × P p.0

abbrev pub Walks : {A : Type 0} → List BlockParts → (A → Type 0) → Visit A → Type 0
Walks {A = A} blocks P v = (u : Passed) → Below blocks u.slots → Walked {A = A} P u.slots (v u)

pub from : {A : Type 0} (P : A → Type 0) (n k : ℕ) (r : Result (A × Passed) (Fault NameFault)) → n ≤ k → Walked {A = A} P k r → Walked {A = A} P n r
from P n k (Err why) h w = tt
from P n k (Ok p) h w = let a : k ≤ p.1.slots = w.0 in (omega arith, w.1)

then_by : {A B : Type 0} (blocks : List BlockParts) (P : A → Type 0) (Q : B → Type 0) (n : ℕ) (r : Result (A × Passed) (Fault NameFault)) (go : A → Visit B) → Below blocks n → Walked {A = A} P n r
    → ((x : A) → P x → Walks {A = B} blocks Q (go x)) → Walked {A = B} Q n (following r go)
then_by blocks P Q n (Err why) go b w next = tt
then_by blocks P Q n (Ok p) go b w next = from Q n p.1.slots (go p.0 p.1) w.0 (next p.0 w.1 p.1 (below_more blocks n p.1.slots w.0 b))

pub walks_bind : {A B : Type 0} (blocks : List BlockParts) (P : A → Type 0) (Q : B → Type 0) (v : Visit A) (go : A → Visit B) → Walks {A = A} blocks P v
    → ((x : A) → P x → Walks {A = B} blocks Q (go x)) → Walks {A = B} blocks Q (v >>= go)
walks_bind blocks P Q v go first next u b = then_by blocks P Q u.slots (v u) go b (first u b) next

weaker_by : {A : Type 0} (P Q : A → Type 0) (n : ℕ) (r : Result (A × Passed) (Fault NameFault)) → ((x : A) → P x → Q x) → Walked {A = A} P n r → Walked {A = A} Q n r
weaker_by P Q n (Err why) w h = tt
weaker_by P Q n (Ok p) w h = (h.0, w p.0 h.1)

pub walks_weaker : {A : Type 0} (blocks : List BlockParts) (P Q : A → Type 0) (v : Visit A) → ((x : A) → P x → Q x) → Walks {A = A} blocks P v → Walks {A = A} blocks Q v
walks_weaker blocks P Q v w h u b = weaker_by P Q u.slots (v u) w (h u b)

pub walks_pure : {A : Type 0} (blocks : List BlockParts) (P : A → Type 0) (x : A) → P x → Walks {A = A} blocks P (pure x)
walks_pure blocks P x h u b = (omega arith, h)

pub walks_given : {A : Type 0} (blocks : List BlockParts) (why : Fault NameFault) (o : Option A) → Walks {A = A} blocks (λ x. o ≡ Some x) (given why o)
walks_given blocks why None u b = tt
walks_given blocks why (Some x) u b = (omega arith, refl)

-- ---- walks in a row, and something made of what they make

pub walks_map : {A B : Type 0} (blocks : List BlockParts) (P : A → Type 0) (Q : B → Type 0) (v : Visit A) (make : A → B) → ((x : A) → P x → Q (make x)) → Walks {A = A} blocks P v
    → Walks {A = B} blocks Q (v >>= λ x. pure (make x))
walks_map blocks P Q v make w one = walks_bind blocks P Q v (λ x. pure (make x)) one (λ x p. walks_pure blocks Q (make x) (w x p))

pub walks_two : {A B C : Type 0} (blocks : List BlockParts) (P : A → Type 0) (Q : B → Type 0) (R : C → Type 0) (v : Visit A) (u : Visit B) (make : A → B → C)
    → ((x : A) (y : B) → P x → Q y → R (make x y)) → Walks {A = A} blocks P v → Walks {A = B} blocks Q u → Walks {A = C} blocks R (v >>= λ x. u >>= λ y. pure (make x y))
walks_two blocks P Q R v u make w one two =
    walks_bind blocks P R v (λ x. u >>= λ y. pure (make x y)) one (λ x p. walks_map blocks Q R u (λ y. make x y) (λ y q. w x y p q) two)

pub walks_three : {A B C D : Type 0} (blocks : List BlockParts) (P : A → Type 0) (Q : B → Type 0) (R : C → Type 0) (T : D → Type 0) (v : Visit A) (u : Visit B) (t : Visit C) (make : A → B → C → D)
    → ((x : A) (y : B) (z : C) → P x → Q y → R z → T (make x y z)) → Walks {A = A} blocks P v → Walks {A = B} blocks Q u → Walks {A = C} blocks R t
    → Walks {A = D} blocks T (v >>= λ x. u >>= λ y. t >>= λ z. pure (make x y z))
walks_three blocks P Q R T v u t make w one two three =
    walks_bind blocks P T v (λ x. u >>= λ y. t >>= λ z. pure (make x y z)) one (λ x p. walks_two blocks Q R T u t (λ y z. make x y z) (λ y z q r. w x y z p q r) two three)

-- a name and what it refers to
abbrev pub Refers : Identifier → Option Referent → Identifier → Type 0
Refers n o j = (x : Referent) × (o ≡ Some x) × (j ≡ refer n x)

pub walks_refer : (blocks : List BlockParts) (why : Fault NameFault) (n : Identifier) (o : Option Referent) → Walks {A = Identifier} blocks (λ j. Refers n o j) (given why o >>= λ x. pure (refer n x))
walks_refer blocks why n o = walks_map blocks (λ x. o ≡ Some x) (λ j. Refers n o j) (given why o) (λ x. refer n x) (λ x e. (x, e, refl)) (walks_given blocks why o)

-- ---- lists

append_none : {A : Type 0} (xs : List A) → xs ≡ xs ++ []
append_none [] = refl
append_none (x ∷ xs) = ap (λ ys. x ∷ ys) (append_none xs)

append_one : {A : Type 0} (xs : List A) (y : A) (ys : List A) → (xs ++ y ∷ []) ++ ys ≡ xs ++ y ∷ ys
append_one [] y ys = refl
append_one (x ∷ xs) y ys = ap (λ zs. x ∷ zs) (append_one xs y ys)

-- these so far, and what all of those make
abbrev pub After : {A B : Type 0} → (B → A → Type 0) → List A → List B → List A → Type 0
After {A = A} R done xs zs = (ys : List A) × Pairwise R xs ys × (zs ≡ done ++ ys)

pub walks_each : {A B : Type 0} (blocks : List BlockParts) (R : B → A → Type 0) (H : B → Type 0) (one : B → Visit A) → ((x : B) → H x → Walks {A = A} blocks (R x) (one x))
    → (done : List A) (xs : List B) → Every H xs → Walks {A = List A} blocks (After R done xs) (each one done xs)
unfolding each
walks_each blocks R H one ones done [] all = walks_pure blocks (After R done []) done ([], tt, append_none done)
walks_each blocks R H one ones done (x ∷ xs) all =
    walks_bind blocks (R x) (After R done (x ∷ xs)) (one x) (λ y. each one (done ++ y ∷ []) xs) (ones x all.0)
    (λ y r. walks_weaker blocks (After R (done ++ y ∷ []) xs) (After R done (x ∷ xs)) (each one (done ++ y ∷ []) xs) (λ zs a. (y ∷ a.0, (r, a.1), a.2 ∙ append_one done y a.0))
    (walks_each blocks R H one ones (done ++ y ∷ []) xs all.1))

pub walks_some : {A B : Type 0} (blocks : List BlockParts) (R : B → A → Type 0) (H : B → Type 0) (one : B → Visit A) → ((x : B) → H x → Walks {A = A} blocks (R x) (one x))
    → (xs : List B) → Every H xs → Walks {A = List A} blocks (λ ys. Pairwise R xs ys) (each one [] xs)
walks_some blocks R H one ones xs all =
    walks_weaker blocks (After R [] xs) (λ ys. Pairwise R xs ys) (each one [] xs) (λ zs a. subst (λ ys. Pairwise R xs ys) (sym a.2) a.1) (walks_each blocks R H one ones [] xs all)

pub any : {A : Type 0} (xs : List A) → Every (λ _. Unit {0}) xs
any [] = tt
any (x ∷ xs) = (tt, any xs)

pub walks_all : {A B : Type 0} (blocks : List BlockParts) (R : B → A → Type 0) (one : B → Visit A) → ((x : B) → Walks {A = A} blocks (R x) (one x)) → (xs : List B)
    → Walks {A = List A} blocks (λ ys. Pairwise R xs ys) (each one [] xs)
walks_all blocks R one ones xs = walks_some blocks R (λ _. Unit {0}) one (λ x _. ones x) xs (any xs)

pub walks_optional : {A B : Type 0} (blocks : List BlockParts) (R : B → A → Type 0) (one : B → Visit A) → ((x : B) → Walks {A = A} blocks (R x) (one x)) → (o : Option B)
    → Walks {A = Option A} blocks (λ y. Optional R o y) (optional one o)
walks_optional blocks R one ones None = walks_pure blocks (λ y. Optional R None y) None tt
walks_optional blocks R one ones (Some x) = walks_map blocks (R x) (λ y. Optional R (Some x) y) (one x) (λ y. Some y) (λ y r. r) (ones x)
