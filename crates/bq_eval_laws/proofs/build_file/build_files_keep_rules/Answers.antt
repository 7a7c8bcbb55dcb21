use Rattle.bq_eval_laws.proofs.Evaluations.Rules.{rules_stay}
use Rattle.bq_package.specs.Calls.{meaning}
use Rattle.bq_eval_laws.proofs.BuildFiles.Calls.{calls_own}
use Rattle.bq_eval_laws.proofs.build_file.build_files_keep_rules.Goals as goal

pub returns : goal.returns
returns c names = rules_stay names meaning calls_own
