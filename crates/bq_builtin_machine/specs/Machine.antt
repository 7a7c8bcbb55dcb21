-- Steps, prints and `fail`, and the walks over values as actions of a machine.
use Rattle.std.specs.Prelude.{ℕ, ◌-◌, Bool, cond, List, [], ◌∷◌, ◌++◌, nat_lt, Ok, Err}
use Rattle.std.specs.declared.cmp.Ordering.{Ordering}
use Rattle.bq_base.specs.declared.fault.EvalFault.TheVariants.{StepLimit, Fail}
use Rattle.bq_value.specs.Datum.{Datum}
use Rattle.bq_value.specs.Cells.{StoreView}
use Rattle.bq_value.specs.Looked.{Looked, max_levels}
use Rattle.bq_value.specs.Equality.{equal_at}
use Rattle.bq_value.specs.Order.{ordered_at}
use Rattle.bq_value.specs.KeyWalk.{walked_at, keyed}
use Rattle.bq_value_text.specs.Shown.{repr_of, text_of}
use Rattle.bq_builtin_machine.specs.State.{State}
use Rattle.bq_builtin_machine.specs.Action.{Action, done, stop, change}

-- the state with another number of steps left
abbrev pub with_steps : ℕ → State → State
with_steps n s = record s { steps = n }

-- takes `count` steps, or too few are left (F53)
unfoldable pub step : ℕ → Action State (Unit {0})
step count s = cond (nat_lt s.steps count) (stop StepLimit s) (done tt (with_steps (s.steps - count) s))

-- a walk over values: its answer, and the steps that it leaves
abbrev pub after_walk : {A : Type 0} → Looked A → Action State A
after_walk (Ok answer) = λ s. done answer.0 (with_steps answer.1 s)
after_walk (Err kind) = stop kind

-- a walk over values, with the steps that are left
abbrev pub walk : {A : Type 0} → (StoreView → ℕ → Looked A) → Action State A
walk looked = λ s. after_walk (looked s.store s.steps) s

-- whether two values are equal, with all levels still to go
unfoldable pub looked_equal : StoreView → ℕ → Datum → Datum → Looked Bool
looked_equal store n a b = equal_at max_levels store n a b

-- which of two values comes first, with all levels still to go
unfoldable pub looked_order : StoreView → ℕ → Datum → Datum → Looked Ordering
looked_order store n a b = ordered_at max_levels store n a b

-- `a == b`
unfoldable pub equal : Datum → Datum → Action State Bool
equal a b = walk (λ store n. looked_equal store n a b)

-- how two values are ordered, for `<` and its kin
unfoldable pub order : Datum → Datum → Action State Ordering
order a b = walk (λ store n. looked_order store n a b)

-- `str(v)`
unfoldable pub text : Datum → Action State (List ℕ)
text v = walk (λ store n. text_of store n v)

-- `repr(v)`
unfoldable pub repr : Datum → Action State (List ℕ)
repr v = walk (λ store n. repr_of store n v)

-- the key that a value makes
unfoldable pub key : Datum → Action State Datum
key v = walk (λ store n. keyed v (walked_at max_levels n v))

-- one text more is printed
unfoldable pub print : List ℕ → Action State (Unit {0})
print bytes = change (λ s. record s { prints = s.prints ++ bytes ∷ [] })

-- stops the program with a message (F56)
unfoldable pub fail : {A : Type 0} → List ℕ → Action State A
fail bytes s = stop Fail (record s { message = bytes })
