-- Runs that end alike, one after another.
use Rattle.std.proofs.Common.{◌≡◌, Bool, true, false, refl, subst}
use Rattle.std.specs.Prelude.{if◌then◌else◌}
use Rattle.bq_builtin_machine.specs.Action.{Action, Run, done, stopped, following}
use Rattle.bq_eval_by_name.specs.Alike.{Alike, Same}

pub itself : {S A : Type 0} (r : Run S A) → Alike Same r r
itself (done a s) = (refl, refl)
itself (stopped because) = refl

-- runs that end alike with the same values are one
pub plain : {S A : Type 0} (r q : Run S A) → Alike Same r q → r ≡ q
plain (done a s) (done b t) (e, v) = let f : s ≡ t = e in let g : a ≡ b = v in cc
plain (done a s) (stopped why) never = absurd never
plain (stopped because) (done b t) never = absurd never
plain (stopped because) (stopped why) e = let f : because ≡ why = e in cc

-- what comes after both is alike
pub then_alike : {S A B C D : Type 0} (V : A → B → Type 0) (W : C → D → Type 0) (r : Run S A) (q : Run S B) (g : A → Action S C) (h : B → Action S D) → Alike V r q
    → ((a : A) (b : B) (s : S) → V a b → Alike W (g a s) (h b s)) → Alike W (following r g) (following q h)
then_alike V W (done a s) (done b t) g h (e, v) k = subst (λ u. Alike W (g a s) (h b u)) e (k a b s v)
then_alike V W (done a s) (stopped why) g h never k = absurd never
then_alike V W (stopped because) (done b t) g h never k = absurd never
then_alike V W (stopped because) (stopped why) g h e k = e

pub then_same : {S A C D : Type 0} (W : C → D → Type 0) (r q : Run S A) (g : A → Action S C) (h : A → Action S D) → Alike Same r q
    → ((a : A) (s : S) → Alike W (g a s) (h a s)) → Alike W (following r g) (following q h)
then_same W r q g h e k = then_alike Same W r q g h e (λ a b s same. subst (λ c. Alike W (g a s) (h c s)) same (k a s))

-- after what both do
pub then_both : {S A C D : Type 0} (W : C → D → Type 0) (r : Run S A) (g : A → Action S C) (h : A → Action S D)
    → ((a : A) (s : S) → Alike W (g a s) (h a s)) → Alike W (following r g) (following r h)
then_both W (done a s) g h k = k a s
then_both W (stopped because) g h k = refl

pub choice : {S A B : Type 0} (W : A → B → Type 0) (t : Bool) (a b : Action S A) (c d : Action S B) (s : S) → Alike W (a s) (c s) → Alike W (b s) (d s)
    → Alike W ((if t then a else b) s) ((if t then c else d) s)
choice W true a b c d s h k = h
choice W false a b c d s h k = k

-- what both do, and a value of what it gave
pub then_pure : {S A B C : Type 0} (W : B → C → Type 0) (r : Run S A) (f : A → B) (g : A → C) → ((a : A) → W (f a) (g a)) → Alike W (following r (λ a s. done (f a) s)) (following r (λ a s. done (g a) s))
then_pure W (done a s) f g k = (refl, k a)
then_pure W (stopped because) f g k = refl
