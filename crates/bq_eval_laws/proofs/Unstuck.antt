-- What does not get stuck: values, most faults, one action after another, and a choice of two.
use Rattle.std.proofs.Common.{◌≡◌, Bool, true, false}
use Rattle.std.specs.Prelude.{if◌then◌else◌}
use Rattle.bq_base.specs.declared.fault.EvalFault.{EvalFault}
use Rattle.bq_value.specs.Datum.{Datum}
use Rattle.bq_builtin_machine.specs.Action.{Action, Run, done, stopped, following, ◌>>=◌, pure}
use Rattle.bq_eval_spec.specs.Primitives.{Primitives, stop}
use Rattle.bq_eval_laws.proofs.Respects.{choosing}
use Rattle.bq_eval_laws.specs.Stuck.{is_stuck, IsUnstuck, Unstuck}

pub value_of : {S : Type 0} (A : Type 0) (x : A) → Unstuck {S = S} A (pure x)
value_of A x s = tt

pub stop_of : {S : Type 0} (m : Primitives S) (A : Type 0) (kind : EvalFault) → is_stuck kind ≡ false → Unstuck A (stop m kind)
stop_of m A kind h s = h

then_run : {S A B : Type 0} (r : Run S A) (f : A → Action S B) → IsUnstuck r → ((x : A) → Unstuck B (f x)) → IsUnstuck (following r f)
then_run (done x s) f h k = k x s
then_run (stopped why) f h k = h

pub both : {S : Type 0} (A B : Type 0) (a : Action S A) (f : A → Action S B) → Unstuck A a → ((x : A) → Unstuck B (f x)) → Unstuck B (a >>= f)
both A B a f h k s = then_run (a s) f (h s) k

either : {S A : Type 0} (t : Bool) (a c : Action S A) (s : S) → Unstuck A a → Unstuck A c → IsUnstuck ((if t then a else c) s)
either true a c s h k = h s
either false a c s h k = k s

pub choice_of : {S : Type 0} (m : Primitives S) (A : Type 0) (v : Datum) (a c : Action S A) → Unstuck A a → Unstuck A c → Unstuck A (choosing m v a c)
choice_of m A v a c h k s = either (m.truth v s) a c s h k
