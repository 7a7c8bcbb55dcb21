use Rattle.std.proofs.Common.{sym, subst}
use Rattle.bq_builtin_methods.specs.Methods.{list_methods}
use Rattle.bq_builtin_methods.specs.Row.{IsRowOf}
use Rattle.bq_builtin_methods.proofs.Found.{row_is}
use Rattle.bq_builtin_methods.proofs.list_table.list_row.Goals as goal

pub returns : goal.returns
unfolding list_methods
returns c = subst (λ found. IsRowOf list_methods c.args.name.now found) (sym c.row_in.ensures) (row_is list_methods c.args.name.now)
