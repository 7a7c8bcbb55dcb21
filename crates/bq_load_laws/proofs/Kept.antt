-- A module that evaluates as before keeps its outcome.
use Rattle.bq_load.specs.Evaluation.{means}
use Rattle.bq_load.specs.Views.{ModuleView, FailedView}
use Rattle.bq_load_order.proofs.Unchanged.{as_they_did}
use Rattle.bq_load_laws.specs.ChangedOutcomes.{UnchangedModulesKeepTheirOutcomes}
use Rattle.bq_load_laws.proofs.Alike.{unchanged_evaluate_alike}

pub unchanged_keep : UnchangedModulesKeepTheirOutcomes
unchanged_keep x y p known outcomes are m h same =
    as_they_did ModuleView FailedView (means x) (means y) p known outcomes are m m h (λ modules loaded. unchanged_evaluate_alike x y p m same modules loaded)
