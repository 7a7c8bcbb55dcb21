-- One action after another.
use Rattle.std.proofs.Common.{◌≡◌, ℕ, Result, Ok, Err, refl, ap}
use Rattle.bq_value.specs.declared.error.EvalErr.{EvalErr}
use Rattle.bq_builtin_machine.specs.Action.{Action, Run, done, stopped, following, pure}
use Rattle.bq_eval_spec.specs.Primitives.{Primitives}
use Rattle.bq_eval_rules.specs.Acts.{Acts}
use Rattle.bq_eval_rules.specs.OpenLoops.{counted}

pub following_twice : {S A B C : Type 0} (run : Run S A) (f : A → Action S B) (g : B → Action S C) → following (following run f) g ≡ following run (λ a s. following (f a s) g)
following_twice (done a s) f g = refl
following_twice (stopped why) f g = refl

-- of what an action gives, just the first part
pub first_acts : {S A B C : Type 0} (m : Primitives S) (b : B) (c : C) (result : Result A EvalErr) (s : S) (run : Run S (B × C)) → Acts m (λ _. (b, c)) result s run → Acts m (λ _. b) result s (following run (λ p. pure p.0))
first_acts m b c (Ok x) s run h = ap (λ r. following r (λ p. pure p.0)) h
first_acts m b c (Err e) s run h = λ why is. ap (λ r. following r (λ p. pure p.0)) (h why is)

-- an action, and then a value that is known
pub then_gives : {S A B : Type 0} (m : Primitives S) (b : B) (result : Result A EvalErr) (s : S) (run : Run S (Unit {0})) → Acts m (λ _. tt) result s run → Acts m (λ _. b) result s (following run (λ _. pure b))
then_gives m b (Ok x) s run h = ap (λ r. following r (λ _. pure b)) h
then_gives m b (Err e) s run h = λ why is. ap (λ r. following r (λ _. pure b)) (h why is)

pub following_thrice : {S A B C D : Type 0} (run : Run S A) (f : A → Action S B) (g : B → Action S C) (h : C → Action S D)
    → following (following (following run f) g) h ≡ following run (λ a s. following (following (f a s) g) h)
following_thrice (done a s) f g h = refl
following_thrice (stopped why) f g h = refl

pub counted_twice : {S A B : Type 0} (run : Run S A) (f : A → Action S B) (count : B → S → ℕ) → counted (following run f) count ≡ counted run (λ a s. counted (f a s) count)
counted_twice (done a s) f count = refl
counted_twice (stopped why) f count = refl
