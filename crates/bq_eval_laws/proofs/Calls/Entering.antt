-- In which order a function becomes active.
use Rattle.std.proofs.Common.{◌≡◌, refl, ap, ℕ, ◌<◌, true, List, [], ◌∷◌, ◌++◌, inl, inr, length}
use Rattle.std.specs.Prelude.{nat_lt, ◌==◌, ◌&&◌, Contains}
use Rattle.std.specs.Bool.{Decides}
use Rattle.std.proofs.lemmas.Bool.Decides.{Decides-eqb, Decides-and, Decides-like, Decides-ltb, Decides-by_or}
use Rattle.std.proofs.lemmas.List.Elements.{Decides-contains}
use Rattle.bq_base.specs.declared.fault.EvalFault.TheVariants.{Recursion}
use Rattle.bq_base.proofs.Choices.{by_bool}
use Rattle.bq_builtin_machine.specs.Action.{done, stopped}
use Rattle.bq_builtin_machine.specs.Calls as machine
use Rattle.bq_builtin_machine.specs.Calls.{is_active, enter}
use Rattle.bq_builtin_machine.specs.State.{State, Stop, stop_at}
use Rattle.bq_eval_spec.specs.Calls as meaning
use Rattle.bq_eval_spec.specs.Calls.{call_function}
use Rattle.bq_builtin_machine.specs.Refusals.{IsRefusedForFirst}
use Rattle.bq_eval_laws.specs.Calls.Entered.{FunctionCall, entered, activated, whole_call}
use Rattle.bq_eval_laws.specs.Calls.Orders.{entering, IsActive}

pub entered_in_order : (home place : ℕ) (s : State) → IsRefusedForFirst (enter home place s) (entering s home place)
unfolding enter
entered_in_order home place s = elim (by_bool (is_active home place s.active)) [
  | inl t ↦ rw t refl
  | inr t ↦ elim (by_bool (nat_lt (length s.active) 100)) [
    | inl u ↦ rw (t, u) refl
    | inr u ↦ rw (t, u) refl
  ]
]

-- ---- which functions are active

same_function : (home place : ℕ) (f : ℕ × ℕ) → Decides ((f.0 == home) && (f.1 == place)) (f ≡ (home, place))
same_function home place f =
    Decides-like ((f.0 == home) && (f.1 == place)) (λ h i. (h.0 i, h.1 i)) (λ e. (ap (λ (g : ℕ × ℕ). g.0) e, ap (λ (g : ℕ × ℕ). g.1) e))
    (Decides-and (f.0 == home) (f.1 == place) (Decides-eqb f.0 home) (Decides-eqb f.1 place))

active_decides : (home place : ℕ) (active : List (ℕ × ℕ)) → Decides (is_active home place active) (Contains active (home, place))
active_decides home place active =
    Decides-contains active (home, place) (is_active home place active)
    (Decides-by_or (λ f. (f.0 == home) && (f.1 == place)) (λ f. f ≡ (home, place)) (is_active home place) (same_function home place) refl (λ _ _. refl) active)

pub active_refused : (home place : ℕ) (s : State) → IsActive home place s → enter home place s ≡ stopped (stop_at Recursion s)
unfolding enter
active_refused home place s is = (let t : is_active home place s.active ≡ true = (active_decides home place s.active).1 is in rw t refl)

pub other_entered : (home place : ℕ) (s : State) → ¬ IsActive home place s → length s.active < 100 → enter home place s ≡ done tt (record s { active = s.active ++ (home, place) ∷ [] })
unfolding enter
other_entered home place s other few =
    let u : nat_lt (length s.active) 100 ≡ true = (Decides-ltb (length s.active) 100).1 few in
    elim (by_bool (is_active home place s.active)) [
      | inl t ↦ absurd (other ((active_decides home place s.active).0 t))
      | inr t ↦ rw (t, u) refl
    ]

-- ---- a call

module _ (S R V : Type 0) (x : FunctionCall S R V) where
  pub arguments_first : (s : S) (why : Stop) → entered x s ≡ stopped why → whole_call x s ≡ stopped why
  unfolding call_function
  arguments_first s why h = rw h refl

  pub activity_second : (s t : S) (env : V) (why : Stop) → entered x s ≡ done env t → activated x t ≡ stopped why → whole_call x s ≡ stopped why
  unfolding call_function
  activity_second s t env why h k = rw (h, k) refl

pub machine_hundred : machine.max_active ≡ 100
machine_hundred = refl

pub meaning_hundred : meaning.max_active ≡ 100
unfolding meaning.max_active
meaning_hundred = refl
