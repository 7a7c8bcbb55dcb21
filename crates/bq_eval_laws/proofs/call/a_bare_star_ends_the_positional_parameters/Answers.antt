use Rattle.bq_eval_laws.proofs.Calls.Parameters.{bare_stars}
use Rattle.bq_eval_laws.proofs.call.a_bare_star_ends_the_positional_parameters.Goals as goal

pub returns : goal.returns
returns c k m scoping = bare_stars m scoping
