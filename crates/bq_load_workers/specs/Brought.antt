-- What a worker brings.
use Rattle.std.specs.Prelude.{◌≡◌, ℕ, ◌<◌, List, ◌++◌, length, map, All, Result, IfOk, OnOk}
use Rattle.std.specs.declared.alloc.AllocError.{AllocError}
use Rattle.bq_board.specs.Graph.{Loads}
use Rattle.bq_load_order.specs.declared.outcome.Outcome.{Outcome}
use Rattle.bq_load_order.specs.Outcome.{outcome}
use Rattle.bq_load_order.specs.SharedOutcomes.{shown}
use Rattle.bq_load_workers.specs.declared.pool.FinishedModule.{FinishedModule}
use Rattle.bq_load_workers.specs.declared.pool.WorkDone.{WorkDone}

module _ {M N V F : Type 0} (see : M → V) (see_fault : N → F) (out : ℕ → Outcome V F) (n : ℕ) where
  -- modules below n with their outcomes
  abbrev pub AreRight : List (FinishedModule M N) → Type 0
  AreRight es = All (λ e. (e.number < n) × (shown see see_fault e.outcome ≡ out e.number)) es

  -- what a worker answers: such modules, unless it was refused memory
  abbrev pub IsAnswer : Result (WorkDone M N) AllocError → Type 0
  IsAnswer r = IfOk r (λ w. AreRight w.modules.items)

  -- just these modules were finished since, in this order, each with its outcome
  pub record Brought (before after : List ℕ) (es : List (FinishedModule M N)) : Type 0 where
    pub joined : after ≡ before ++ map (λ e. e.number) es
    pub right : AreRight es

-- the modules of a load graph, which mean this by the values of their loads
module _ {M N V F : Type 0} (see : M → V) (see_fault : N → F) (means : ℕ → List V → Result V F) (p : Loads) where
  -- just these of them were finished since, in this order, each with its outcome
  abbrev pub BroughtOf : (before after : List ℕ) → List (FinishedModule M N) → Type 0
  BroughtOf before after es = Brought see see_fault (outcome means p) (length p) before after es

  -- The list goes on: if it was what was finished since some time, it still is after the call, memory aside.
  abbrev pub BringsMore : {A E : Type 0} → Result A E → (finished : List ℕ) → List (FinishedModule M N) → (now_finished : List ℕ) → List (FinishedModule M N) → Type 0
  BringsMore r finished es now_finished more = (before : List ℕ) → BroughtOf before finished es → OnOk r (BroughtOf before now_finished more)
