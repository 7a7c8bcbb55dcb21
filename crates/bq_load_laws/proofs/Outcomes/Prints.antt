-- What a module printed stays.
use Rattle.std.proofs.Common.{refl}
use Rattle.bq_builtin_machine.specs.Action.{done, stopped}
use Rattle.bq_load.specs.Evaluation.{module_after}
use Rattle.bq_load_laws.specs.Outcomes.Prints.{PrintsAreKept}

pub kept : PrintsAreKept
unfolding module_after
kept l file values (done globals s) = refl
kept l file values (stopped why) = refl
