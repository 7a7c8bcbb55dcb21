use Rattle.bq_eval_spec.proofs.FrameBinding.{one_name}
use Rattle.bq_eval_spec.proofs.frame_laws.binding_is_of_one_name.Goals as goal

pub returns : goal.returns
returns c = one_name
