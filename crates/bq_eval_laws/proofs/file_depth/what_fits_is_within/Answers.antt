use Rattle.bq_eval_laws.specs.Fits.{ExprFitsTo}
use Rattle.bq_eval_laws.proofs.Within.{expr_within, target_within, stmt_within}
use Rattle.bq_eval_laws.proofs.file_depth.what_fits_is_within.Goals as goal

pub returns-clause-expressions : goal.returns-clause-expressions
returns-clause-expressions c = expr_within

pub returns-clause-statements : goal.returns-clause-statements
returns-clause-statements c = stmt_within

pub returns-clause-targets : goal.returns-clause-targets
returns-clause-targets c inner = target_within (ExprFitsTo inner)
