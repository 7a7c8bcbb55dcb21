use Rattle.bq_resolve_laws.proofs.Binds.{comprehension_binds, function_binds, file_binds, loads_bind}
use Rattle.bq_resolve_laws.proofs.names.blocks_hold_what_is_bound.Goals as goal

pub returns : goal.returns
returns c = record { comprehension = comprehension_binds; function = function_binds; file = file_binds; loads = loads_bind }
