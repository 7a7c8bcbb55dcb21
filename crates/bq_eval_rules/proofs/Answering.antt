-- What goes on from an answer, after the run that gave it.
use Rattle.std.proofs.Common.{◌≡◌, Option, Some, None, IfSome, Result, Ok, Err, refl, sym, ap, subst}
use Rattle.bq_value.specs.declared.error.EvalErr.{EvalErr}
use Rattle.bq_value.specs.Datum.{Datum}
use Rattle.bq_builtin_machine.specs.Action.{Action, Run, following, pure}
use Rattle.bq_eval_spec.specs.Primitives.{Primitives}
use Rattle.bq_eval_rules.specs.Acts.{Acts, ActsOn}
use Rattle.bq_eval_rules.specs.Answers.{AnswerPlace, reason_of}
use Rattle.bq_eval_rules.proofs.Following.{following_twice}

module _ {S A B : Type 0} (m : Primitives S) (view : A → B) where
  pub goes_on : (given : AnswerPlace) (next : Datum → Action S B) (result : Result A EvalErr) (s t : S) (run : Run S Datum)
      → Acts m (λ v. v) given s run → ActsOn m view given (λ v. next v s) s result t → Acts m view result t (following run next)
  goes_on (Ok v) next result s t run h k = let P : Run S Datum → Type 0 = λ r. Acts m view result t (following r next) in subst P (sym h) k
  goes_on (Err e) next result s t run h k =
      let P : Result A EvalErr → Type 0 = λ r. Acts m view r t (following run next) in
      let Q : S → Type 0 = λ u. Acts m view (Err e) u (following run next) in
      subst P (sym k.0) (subst Q (sym k.1) (λ why is. ap (λ r. following r next) (h why is)))

  -- where an action follows the next one
  pub goes_on_twice : {C : Type 0} (given : AnswerPlace) (next : Datum → Action S C) (last : C → Action S B) (result : Result A EvalErr) (s t : S) (run : Run S Datum)
      → Acts m (λ v. v) given s run → ActsOn m view given (λ v. following (next v s) last) s result t → Acts m view result t (following (following run next) last)
  goes_on_twice given next last result s t run h k =
      let P : Run S B → Type 0 = λ r. Acts m view result t r in
      subst P (sym (following_twice run next last)) (goes_on given (λ v u. following (next v u) last) result s t run h k)

  -- where an answer was taken out of its place, which has this left

  pub none_taken : (given left : AnswerPlace) (next : Datum → Run S B) (result : Result A EvalErr) (s : S) → Err (reason_of left) ≡ given → result ≡ Err (reason_of left) → ActsOn m view given next s result s
  none_taken given left next result s is e = let P : AnswerPlace → Type 0 = λ p. ActsOn m view p next s result s in subst P is (e, refl)

  pub one_taken : (given : AnswerPlace) (v : Datum) (next : Datum → Run S B) (result : Result A EvalErr) (s t : S) → Ok v ≡ given → Acts m view result t (next v) → ActsOn m view given next s result t
  one_taken given v next result s t is h = let P : AnswerPlace → Type 0 = λ p. ActsOn m view p next s result t in subst P is h

-- where the next action gives what is known, and something is made of that
module _ {S A B C : Type 0} (m : Primitives S) (b : B) (make : B → C) where
  makes : (result : Result A EvalErr) (t : S) (run : Run S B) → Acts m (λ _. b) result t run → Acts m (λ _. make b) result t (following run (λ d. pure (make d)))
  makes (Ok x) t run h = ap (λ r. following r (λ d. pure (make d))) h
  makes (Err e) t run h = λ why is. ap (λ r. following r (λ d. pure (make d))) (h why is)

  pub goes_on_with : (given : AnswerPlace) (next : Datum → Action S B) (result : Result A EvalErr) (s t : S) (run : Run S Datum)
      → Acts m (λ v. v) given s run → ActsOn m (λ _. b) given (λ v. next v s) s result t → Acts m (λ _. make b) result t (following run (λ v r. following (next v r) (λ d. pure (make d))))
  goes_on_with given next result s t run h k =
      let P : Run S C → Type 0 = λ r. Acts m (λ _. make b) result t r in
      subst P (following_twice run next (λ d. pure (make d))) (makes result t (following run next) (goes_on m (λ _. b) given next result s t run h k))

-- another fact of what is there, if something is
pub then_some : {A : Type 0} (P Q : A → Type 0) (o : Option A) → IfSome o P → ((x : A) → P x → Q x) → IfSome o Q
then_some P Q None h f = tt
then_some P Q (Some x) h f = f x h
