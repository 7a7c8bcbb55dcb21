use Rattle.bq_eval_laws.proofs.Evaluations.Files.{files_take}
use Rattle.bq_package.specs.Calls.{meaning}
use Rattle.bq_eval_laws.proofs.BuildFiles.Calls.{calls_own}
use Rattle.bq_eval_laws.proofs.build_file.build_files_take_their_steps.Goals as goal

pub returns : goal.returns
returns c names = files_take names meaning calls_own
