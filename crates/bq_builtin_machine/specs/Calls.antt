-- Which functions are active (Starlark, "Function and method calls": a function may not call itself).
use Rattle.std.specs.Prelude.{ℕ, ◌-◌, Bool, cond, ◌&&◌, List, [], ◌∷◌, ◌++◌, length, take, nat_lt, ◌==◌}
use Rattle.std.specs.List.{list_any}
use Rattle.bq_base.specs.declared.fault.EvalFault.TheVariants.{Recursion, CallDepth}
use Rattle.bq_builtin_machine.specs.State.{State}
use Rattle.bq_builtin_machine.specs.Action.{Action, done, stop}

-- at most this many functions are active
abbrev pub max_active : ℕ
max_active = 100

-- a function, by its home and its place there, is among those that are running
abbrev pub is_active : ℕ → ℕ → List (ℕ × ℕ) → Bool
is_active home place active = list_any (λ f. (f.0 == home) && (f.1 == place)) active

-- all but the newest
abbrev pub without_newest : {A : Type 0} → List A → List A
without_newest xs = take (length xs - 1) xs

-- a function becomes active, if it isn't (F50) and not too many are (F51)
unfoldable pub enter : ℕ → ℕ → Action State (Unit {0})
enter home place s =
    cond (is_active home place s.active) (stop Recursion s)
    (cond (nat_lt (length s.active) max_active) (done tt (record s { active = s.active ++ (home, place) ∷ [] })) (stop CallDepth s))

-- the newest active function is left
unfoldable pub leave : State → State
leave s = record s { active = without_newest s.active }
