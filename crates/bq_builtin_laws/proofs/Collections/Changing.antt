-- A list or dict that is changed is refused for another module (F47), for a walk (F48), and then for what the change refuses.
use Rattle.std.proofs.Common.{◌≡◌, refl, ℕ, inl, inr, [], ◌∷◌, Some, None, Result, Ok, Err, ◌==◌}
use Rattle.bq_base.specs.declared.fault.EvalFault.{EvalFault}
use Rattle.bq_base.proofs.Choices.{by_bool}
use Rattle.bq_value.specs.Cells.{content_at}
use Rattle.bq_value.specs.Contents.{Contents}
use Rattle.bq_builtin_machine.specs.Action.{Action, given, pure, ◌>>=◌, ◌>>◌}
use Rattle.bq_builtin_machine.specs.Cells.{Change, changing, can_change, content, may_change, is_walked, put_content}
use Rattle.bq_builtin_machine.specs.State.{State}
use Rattle.bq_builtin_machine.specs.Refusals.{Check, fault_of, fault_in, first_fault}
use Rattle.bq_builtin_laws.specs.Collections.Orders.{frozen, walked}

-- what is left to do with the content
abbrev put_by : {A : Type 0} → ℕ → Result (A × Contents) EvalFault → Action State A
put_by number r = given r >>= λ p. put_content number p.1 >> pure p.0

put_refused : {A : Type 0} (number : ℕ) (r : Result (A × Contents) EvalFault) (s : State) → fault_of (put_by number r s) ≡ first_fault (fault_in r ∷ [])
put_refused number (Ok p) s = refl
put_refused number (Err kind) s = refl

pub changing_refused : {A : Type 0} (home number : ℕ) (f : Change A) (s : State) (c : Contents) → content_at s.store home number ≡ Some c → fault_of (changing home number f s) ≡ first_fault (frozen s home ∷ walked s home number ∷ fault_in (f c) ∷ [])
unfolding changing can_change content may_change
changing_refused home number f s c known = elim (by_bool (home == s.store.own)) [
  | inr t ↦ rw (known, t) refl
  | inl t ↦ elim (by_bool (is_walked home number s.walks)) [
    | inl u ↦ rw (known, t, u) refl
    | inr u ↦ rw (known, t, u, known) (put_refused number (f c) s)
  ]
]

-- before anything else may be done, it may be changed
pub before_refused : {A : Type 0} (home number : ℕ) (next : Action State A) (s : State) → fault_of ((may_change home number >> next) s) ≡ first_fault (frozen s home ∷ walked s home number ∷ fault_of (next s) ∷ [])
unfolding may_change
before_refused home number next s = elim (by_bool (home == s.store.own)) [
  | inr t ↦ rw t refl
  | inl t ↦ elim (by_bool (is_walked home number s.walks)) [
    | inl u ↦ rw (t, u) refl
    | inr u ↦ rw (t, u) (alone (fault_of (next s)))
  ]
]
  where
    alone : (c : Check) → c ≡ first_fault (c ∷ [])
    alone (Some kind) = refl
    alone None = refl
