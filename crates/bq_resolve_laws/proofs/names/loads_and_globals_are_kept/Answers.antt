use Rattle.bq_resolve_laws.proofs.Loads.{loads_kept, globals_kept}
use Rattle.bq_resolve_laws.proofs.names.loads_and_globals_are_kept.Goals as goal

pub returns-clause-loads : goal.returns-clause-loads
returns-clause-loads c file resolved_file is = loads_kept file resolved_file is

pub returns-clause-globals : goal.returns-clause-globals
returns-clause-globals c file resolved_file is = globals_kept file resolved_file is
