-- What modules hand to those that load them.
use Rattle.std.specs.Prelude.{◌≡◌, ℕ, Option}
use Rattle.std.specs.declared.sync.Arc.{Arc}
use Rattle.std.specs.declared.alloc.Global.{Global}
use Rattle.bq_load_order.specs.declared.outcome.Outcome.{Outcome}
use Rattle.bq_load_order.specs.SharedOutcomes.{seen_value, value_in}

-- the module m, and the value in its outcome, if it has one
abbrev pub IsImport : {M V F : Type 0} → (M → V) → (ℕ → Outcome V F) → ℕ → ℕ → Option (Arc M Global) → Type 0
IsImport see out m number value = (number ≡ m) × (seen_value see value ≡ value_in (out m))
