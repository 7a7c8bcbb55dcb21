-- Two runs that end alike: with values that correspond and in the same state, or with the same fault and prints.
use Rattle.std.specs.Prelude.{◌≡◌}
use Rattle.bq_builtin_machine.specs.Action.{Run, done, stopped}

-- both runs give values that correspond by `V`, in one state, or both stop alike
abbrev pub Alike : {S A B : Type 0} → (A → B → Type 0) → Run S A → Run S B → Type 0
Alike V (done a s) (done b t) = (s ≡ t) × V a b
Alike V (done a s) (stopped why) = ⊥
Alike V (stopped because) (done b t) = ⊥
Alike V (stopped because) (stopped why) = because ≡ why

-- the two are equal
abbrev pub Same : {A : Type 0} → A → A → Type 0
Same a b = a ≡ b
