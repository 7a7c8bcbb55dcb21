use Rattle.std.proofs.Common.{sym, subst}
use Rattle.bq_builtin_methods.specs.Methods.{dict_methods}
use Rattle.bq_builtin_methods.specs.Row.{IsRowOf}
use Rattle.bq_builtin_methods.proofs.Found.{row_is}
use Rattle.bq_builtin_methods.proofs.dict_table.dict_row.Goals as goal

pub returns : goal.returns
unfolding dict_methods
returns c = subst (λ found. IsRowOf dict_methods c.args.name.now found) (sym c.row_in.ensures) (row_is dict_methods c.args.name.now)
