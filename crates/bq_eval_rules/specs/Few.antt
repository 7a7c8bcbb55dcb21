-- A few arguments: no limit stops one more.
use Rattle.std.specs.Prelude.{◌≡◌, ℕ, ◌+◌, ◌<◌, List, [], ◌∷◌, ◌++◌, length}
use Rattle.bq_value.specs.Datum.{Datum}
use Rattle.bq_builtin_machine.specs.Action.{done}
use Rattle.bq_builtin_machine.specs.Args.{Passed}
use Rattle.bq_eval_spec.specs.Primitives.{Primitives}

-- so many at most
abbrev pub few : ℕ
few = 16

-- where there are few arguments, one more joins them
abbrev pub PassesFew : {S : Type 0} → Primitives S → Type 0
PassesFew {S = S} m =
    ((p : Passed) (v : Datum) (s : S) → length p.positional + length p.named < few → m.pass p v s ≡ done (record p { positional = p.positional ++ v ∷ [] }) s)
    × ((p : Passed) (name : List ℕ) (v : Datum) (s : S) → length p.positional + length p.named < few → m.pass_named p name v s ≡ done (record p { named = p.named ++ (name, v) ∷ [] }) s)
