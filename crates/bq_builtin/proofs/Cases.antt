-- Parts of definitions, as words that proofs name.
use Rattle.std.specs.Prelude.{Err, List, Ok, Result, [], ℕ, ◌∷◌}
use Rattle.bq_base.specs.declared.fault.EvalFault.{EvalFault}
use Rattle.bq_base.specs.declared.fault.EvalFault.TheVariants.{Args}
use Rattle.bq_value.specs.Datum.{Datum}

-- a result, refused where arguments were passed by name
abbrev pub without_names : {A : Type 0} → List (List ℕ × Datum) → A → Result A EvalFault
without_names o a = elim o [ [] ↦ Ok a | n ∷ named ↦ Err Args ]
