-- A cell that is lent to be changed.
use Rattle.std.specs.Prelude.{ℕ, set, Result}
use Rattle.std.specs.Borrow.{LendsIfOk, MutBor, Fml}
use Rattle.bq_value.specs.Cells.{StoreView, with_cells}
use Rattle.bq_value_content.specs.Contents.{Contents}
use Rattle.bq_value.specs.declared.error.EvalErr.{EvalErr}
use Rattle.bq_value.specs.contracts.store.Store.{the_row}
use Rattle.bq_value_content.specs.contracts.content.Content.{the_row as content_row}

-- the store in which the running module's cell of that number holds this
abbrev pub with_cell : StoreView → ℕ → Contents → StoreView
with_cell s number c = with_cells (set s.cells number c) s

-- the store ends with the cell as the borrower leaves it, if it is lent; else as it was
abbrev pub LendsCellIfOk : MutBor StoreView → ℕ → Result (MutBor Contents) EvalErr → Fml
LendsCellIfOk s number r = LendsIfOk the_row content_row s r (with_cell s.now number) s.now
