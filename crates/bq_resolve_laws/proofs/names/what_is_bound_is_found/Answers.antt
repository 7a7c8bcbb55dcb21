use Rattle.bq_resolve_laws.proofs.Bound.{function_local, comprehension_local, file_global}
use Rattle.bq_resolve_laws.proofs.UnknownNames.{file_loaded, no_build_functions}
use Rattle.bq_resolve_laws.proofs.names.what_is_bound_is_found.Goals as goal

pub returns : goal.returns
returns c = record { function = function_local; comprehension = comprehension_local; file = file_global; loaded = file_loaded; bzl = no_build_functions }
