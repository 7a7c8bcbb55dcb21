-- What walks make that keep the functions so far; and what stands between.
use Rattle.std.proofs.Common.{◌≡◌, List, [], ◌∷◌, ◌++◌, Result, Ok, Err, refl, ap, ◌∙◌, subst}
use Rattle.bq_base.specs.declared.fault.NameFault.{NameFault}
use Rattle.bq_base.specs.declared.fault.Fault.{Fault}
use Rattle.bq_resolve_scope.specs.Visit.{Passed, Visit, following, ◌>>=◌, each}
use Rattle.bq_resolve_laws.specs.Resolution.{InOrder}
use Rattle.bq_resolve_laws.proofs.Makes.{Making, Makes}

-- it made this, from somewhere
abbrev pub Made : {A : Type 0} → Visit A → A → Type 0
Made {A = A} v x = (p : Passed) × (q : Passed) × (v p ≡ Ok (x, q))

abbrev pub Kept : {A : Type 0} → (A → Type 0) → Passed → Result (A × Passed) (Fault NameFault) → Type 0
Kept P u (Err why) = Unit {0}
Kept P u (Ok p) = P p.0 × (p.1.functions ≡ u.functions)

abbrev pub Keeps : {A : Type 0} → (A → Type 0) → Visit A → Type 0
Keeps {A = A} P v = (u : Passed) → Kept {A = A} P u (v u)

pub kept : {A : Type 0} (P : A → Type 0) (v : Visit A) (u : Passed) (x : A) (q : Passed) → Keeps {A = A} P v → v u ≡ Ok (x, q) → P x × (q.functions ≡ u.functions)
kept {A = A} P v u x q h e = subst (λ r. Kept {A = A} P u r) e (h u)

from : {A : Type 0} (P : A → Type 0) (u w : Passed) (r : Result (A × Passed) (Fault NameFault)) → w.functions ≡ u.functions → Kept {A = A} P w r → Kept {A = A} P u r
from P u w (Err why) e h = tt
from P u w (Ok p) e h = (h.0, h.1 ∙ e)

then_by : {A B : Type 0} (P : A → Type 0) (Q : B → Type 0) (u : Passed) (r : Result (A × Passed) (Fault NameFault)) (go : A → Visit B) → Kept {A = A} P u r → ((x : A) → P x → Keeps {A = B} Q (go x))
    → Kept {A = B} Q u (following r go)
then_by P Q u (Err why) go h next = tt
then_by P Q u (Ok p) go h next = from Q u p.1 (go p.0 p.1) h.1 (next p.0 h.0 p.1)

pub keeps_bind : {A B : Type 0} (P : A → Type 0) (Q : B → Type 0) (v : Visit A) (go : A → Visit B) → Keeps {A = A} P v → ((x : A) → P x → Keeps {A = B} Q (go x)) → Keeps {A = B} Q (v >>= go)
keeps_bind P Q v go first next u = then_by P Q u (v u) go (first u) next

made_by : {A : Type 0} (P : A → Type 0) (v : Visit A) (u : Passed) (r : Result (A × Passed) (Fault NameFault)) → v u ≡ r → Kept {A = A} P u r → Kept {A = A} (Made v) u r
made_by P v u (Err why) e h = tt
made_by P v u (Ok p) e h = ((u, p.1, e), h.1)

pub keeps_made : {A : Type 0} (P : A → Type 0) (v : Visit A) → Keeps {A = A} P v → Keeps {A = A} (Made v) v
keeps_made P v h u = made_by P v u (v u) refl (h u)

weaker_by : {A : Type 0} (P Q : A → Type 0) (u : Passed) (r : Result (A × Passed) (Fault NameFault)) → ((x : A) → P x → Q x) → Kept {A = A} P u r → Kept {A = A} Q u r
weaker_by P Q u (Err why) w h = tt
weaker_by P Q u (Ok p) w h = (w p.0 h.0, h.1)

pub keeps_weaker : {A : Type 0} (P Q : A → Type 0) (v : Visit A) → ((x : A) → P x → Q x) → Keeps {A = A} P v → Keeps {A = A} Q v
keeps_weaker P Q v w h u = weaker_by P Q u (v u) w (h u)

abbrev pub Anything : {A : Type 0} → A → Type 0
Anything x = Unit {0}

with_by : {A : Type 0} (P : A → Type 0) (u : Passed) (r : Result (A × Passed) (Fault NameFault)) → Making {A = A} P u r → Kept {A = A} P u r
with_by P u (Err why) h = tt
with_by P u (Ok p) h = (h.0, h.1)

pub makes_keep : {A : Type 0} (P : A → Type 0) (v : Visit A) → Makes {A = A} P v → Keeps {A = A} P v
makes_keep P v h u = with_by P u (v u) (h u)

without_by : {A : Type 0} (P : A → Type 0) (u : Passed) (r : Result (A × Passed) (Fault NameFault)) → Making {A = A} P u r → Kept {A = A} Anything u r
without_by P u (Err why) h = tt
without_by P u (Ok p) h = (tt, h.1)

-- one that adds no function and no load
pub keeps_makes : {A : Type 0} (P : A → Type 0) (v : Visit A) → Makes {A = A} P v → Keeps {A = A} Anything v
keeps_makes P v h u = without_by P u (v u) (h u)

pub keeps_each : {A B : Type 0} (one : B → Visit A) → ((x : B) → Keeps {A = A} Anything (one x)) → (done : List A) (xs : List B) → Keeps {A = List A} Anything (each one done xs)
unfolding each
keeps_each one ones done [] = λ u. (tt, refl)
keeps_each one ones done (x ∷ xs) = keeps_bind Anything Anything (one x) (λ y. each one (done ++ y ∷ []) xs) (ones x) (λ y _. keeps_each one ones (done ++ y ∷ []) xs)

-- ---- of two walks, one after the other

middle_by : {A B : Type 0} (r : Result (A × Passed) (Fault NameFault)) (go : A → Visit B) (z : B × Passed) → following r go ≡ Ok z → (x : A) × (w : Passed) × (r ≡ Ok (x, w)) × (go x w ≡ Ok z)
middle_by (Err why) go z e = absurd (let no : ⊥ = cc in no)
middle_by (Ok p) go z e = (p.0, p.1, refl, e)

-- what the first one made
pub middle : {A B : Type 0} (v : Visit A) (go : A → Visit B) (u : Passed) (z : B × Passed) → (v >>= go) u ≡ Ok z → (x : A) × (w : Passed) × (v u ≡ Ok (x, w)) × (go x w ≡ Ok z)
middle v go u z e = middle_by (v u) go z e

-- one end is the other
pub same_end : {A : Type 0} (x : A) (w : Passed) (q : A × Passed) (r : Result (A × Passed) (Fault NameFault)) → r ≡ Ok (x, w) → r ≡ Ok q → (x ≡ q.0) × (w ≡ q.1)
same_end x w q r e f = let same : (x, w) ≡ q = cc in (ap (λ z. z.0) same, ap (λ z. z.1) same)

-- ---- lists

pub both : {A B : Type 0} (R : A → B → Type 0) (xs : List A) (ys : List B) (zs : List A) (ws : List B) → InOrder R xs ys → InOrder R zs ws → InOrder R (xs ++ zs) (ys ++ ws)
both R [] [] zs ws h k = k
both R (x ∷ xs) (y ∷ ys) zs ws h k = (h.0, both R xs ys zs ws h.1 k)
both R [] (y ∷ ys) zs ws h k = absurd h
both R (x ∷ xs) [] zs ws h k = absurd h
