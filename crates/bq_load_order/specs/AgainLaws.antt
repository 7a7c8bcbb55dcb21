-- Which modules are unchanged, where the outcomes that modules had are those of a recursion along loads.
use Rattle.std.specs.Prelude.{◌≡◌, ℕ, ◌<◌, List, length, Result, Ok}
use Rattle.bq_board_plan.specs.Graph.{Loads, Known, row}
use Rattle.bq_load_order.specs.Outcome.{load_values, outcome}
use Rattle.bq_load_order.specs.declared.outcome.Outcome.{Outcome}
use Rattle.bq_load_order.specs.Slots.{Tabulates}
use Rattle.bq_load_order.specs.Again.{had, EvaluatesAs}

-- a module evaluates as module k did if it gives the same by the values that the loads of k had
abbrev pub ModulesEvaluateAsTheyDid : (V F : Type 0) → Type 0
ModulesEvaluateAsTheyDid V F =
    (old means : ℕ → List V → Result V F) (p : Loads) → Known p → (outcomes : List (Outcome V F)) → Tabulates (length p) (outcome old p) outcomes
    → (k m : ℕ) → k < length p → ((vs : List V) → load_values (outcome old p) (row p k) ≡ Ok vs → means m vs ≡ old k vs) → EvaluatesAs (had outcomes) p k means m
