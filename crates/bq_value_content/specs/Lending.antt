-- A cell of the running module that is lent to be changed.
use Rattle.std.specs.Prelude.{ℕ, set, Result}
use Rattle.std.specs.Borrow.{Lends, LendsIfOk, MutBor, Fml}
use Rattle.bq_base.specs.declared.fault.EvalFault.{EvalFault}
use Rattle.bq_value_content.specs.Made.{MadeView, with_made}
use Rattle.bq_value_content.specs.Contents.{Contents}
use Rattle.bq_value_content.specs.contracts.made.Made.{the_row}
use Rattle.bq_value_content.specs.contracts.content.Content.{the_row as content_row}

-- the cells, of which that of this number holds this
abbrev pub with_cell : MadeView → ℕ → Contents → MadeView
with_cell m number c = with_made (set m.cells number c) m

-- the cells end with what is left in the one that is lent
abbrev pub LendsCell : MutBor MadeView → ℕ → MutBor Contents → Fml
LendsCell m number r = Lends the_row content_row m r (with_cell m.now number)

-- the cells end with the one that is lent as the borrower leaves it, if it is lent; else as they were
abbrev pub LendsCellIfOk : MutBor MadeView → ℕ → Result (MutBor Contents) EvalFault → Fml
LendsCellIfOk m number r = LendsIfOk the_row content_row m r (with_cell m.now number) m.now
