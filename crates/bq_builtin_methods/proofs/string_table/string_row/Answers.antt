use Rattle.std.proofs.Common.{sym, subst}
use Rattle.bq_builtin_methods.specs.Methods.{string_methods}
use Rattle.bq_builtin_methods.specs.Row.{IsRowOf}
use Rattle.bq_builtin_methods.proofs.Found.{row_is}
use Rattle.bq_builtin_methods.proofs.string_table.string_row.Goals as goal

pub returns : goal.returns
unfolding string_methods
returns c = subst (λ found. IsRowOf string_methods c.args.name.now found) (sym c.row_in.ensures) (row_is string_methods c.args.name.now)
