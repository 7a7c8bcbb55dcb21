use Rattle.bq_eval_laws.proofs.Sound.{each_file}
use Rattle.bq_eval_laws.proofs.soundness.each_resolved_file_is_sound.Goals as goal

pub returns : goal.returns
returns c = each_file
