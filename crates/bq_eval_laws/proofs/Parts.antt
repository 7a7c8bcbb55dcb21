-- As many values as targets.
use Rattle.std.proofs.Common.{◌≡◌, ◌≢◌, refl, ℕ, List, length, inl, inr, Ok, Err}
use Rattle.std.specs.Prelude.{◌==◌}
use Rattle.std.proofs.lemmas.Bool.Decides.{Decides-eqb}
use Rattle.bq_base.proofs.Choices.{by_bool}
use Rattle.bq_base.specs.declared.fault.EvalFault.{EvalFault}
use Rattle.bq_base.specs.declared.fault.EvalFault.TheVariants.{BadValue}
use Rattle.bq_value.specs.Datum.{Datum}
use Rattle.bq_builtin_machine.specs.Action.{done, stopped}
use Rattle.bq_builtin_machine.specs.Iteration.{elements_in}
use Rattle.bq_builtin_machine.specs.State.{State, stop_at}
use Rattle.bq_eval.specs.Unpacking.{parts}

pub parts_taken : (count : ℕ) (v : Datum) (vs : List Datum) (s : State) → elements_in s.store v ≡ Ok vs → length vs ≡ count → parts count v s ≡ done vs s
unfolding parts
parts_taken count v vs s has many = rw (has, (Decides-eqb (length vs) count).1 many) refl

pub another_number_refused : (count : ℕ) (v : Datum) (vs : List Datum) (s : State) → elements_in s.store v ≡ Ok vs → length vs ≢ count → parts count v s ≡ stopped (stop_at BadValue s)
unfolding parts
another_number_refused count v vs s has other = elim (by_bool (length vs == count)) [
  | inl t ↦ absurd (other ((Decides-eqb (length vs) count).0 t))
  | inr t ↦ rw (has, t) refl
]

pub no_iterable_refused : (count : ℕ) (v : Datum) (why : EvalFault) (s : State) → elements_in s.store v ≡ Err why → parts count v s ≡ stopped (stop_at BadValue s)
unfolding parts
no_iterable_refused count v why s has = rw has refl
