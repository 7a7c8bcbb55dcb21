-- A cell of a machine that is lent to be changed.
use Rattle.std.specs.Prelude.{ℕ, Result}
use Rattle.std.specs.Borrow.{LendsIfOk, MutBor, Fml}
use Rattle.bq_value.specs.Contents.{Contents}
use Rattle.bq_value.specs.declared.error.EvalErr.{EvalErr}
use Rattle.bq_value.specs.Content.{the_row as content_row}
use Rattle.bq_builtin_machine.specs.State.{State}
use Rattle.bq_builtin_machine.specs.Cells.{with_content}
use Rattle.bq_builtin_machine.specs.contracts.machine.Machine.{the_row}

-- the machine ends with what is left in the cell where it is lent, and else as it was
abbrev pub LendsContent : MutBor State → ℕ → Result (MutBor Contents) EvalErr → Fml
LendsContent s number r = LendsIfOk the_row content_row s r (with_content s.now number) s.now
