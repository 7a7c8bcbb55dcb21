-- What the evaluation of a module changes as it goes, and what is left of it where it stops.
use Rattle.std.specs.Prelude.{ℕ, List, [], refl}
use Rattle.std.specs.Coded.{Coded, code_by, coded×, coded_ℕ, coded_list}
use Rattle.bq_base.specs.declared.fault.EvalFault.{EvalFault}
use Rattle.bq_value.specs.Cells.{StoreView, coded_store}
use Rattle.bq_value.specs.Cell.{Cell}

-- The store, the steps that are left, the texts printed so far in order, the functions that are active (the module and the place of
-- each one's `def`, the newest last), the cells that are being walked (one for each walk, the newest last), the line of the
-- top-level statement that is running, and the message of `fail`, which is empty until `fail` is called.
pub record State : Type 0 where
  pub store : StoreView
  pub steps : ℕ
  pub prints : List (List ℕ)
  pub active : List (ℕ × ℕ)
  pub walks : List Cell
  pub line : ℕ
  pub message : List ℕ

-- Why an evaluation stops, in which line, with which message, and what it had printed by then.
pub record Stop : Type 0 where
  pub kind : EvalFault
  pub line : ℕ
  pub message : List ℕ
  pub prints : List (List ℕ)

-- an evaluation that stops there
abbrev pub stop_at : EvalFault → State → Stop
stop_at kind s = record { kind = kind; line = s.line; message = s.message; prints = s.prints }

-- a module's evaluation begins
abbrev pub started : StoreView → ℕ → State
started store limit = record { store = store; steps = limit; prints = []; active = []; walks = []; line = 0; message = [] }

-- a code of each cell, by its module and its number; no other cell has it
abbrev pub coded_cell : Coded Cell
coded_cell = code_by (ℕ × ℕ) (coded× coded_ℕ coded_ℕ) (λ c. (c.module, c.number)) (λ p. record { «module» = p.0; number = p.1 }) (λ _. refl)

-- a code of each state, which no other state has
abbrev pub coded_state : Coded State
coded_state =
    code_by (StoreView × (ℕ × (List (List ℕ) × (List (ℕ × ℕ) × (List Cell × (ℕ × List ℕ))))))
    (coded× coded_store (coded× coded_ℕ (coded× (coded_list (coded_list coded_ℕ)) (coded× (coded_list (coded× coded_ℕ coded_ℕ)) (coded× (coded_list coded_cell) (coded× coded_ℕ (coded_list coded_ℕ)))))))
    (λ s. (s.store, (s.steps, (s.prints, (s.active, (s.walks, (s.line, s.message)))))))
    (λ p. record { store = p.0; steps = p.1.0; prints = p.1.1.0; active = p.1.1.1.0; walks = p.1.1.1.1.0; line = p.1.1.1.1.1.0; message = p.1.1.1.1.1.1 })
    (λ _. refl)
