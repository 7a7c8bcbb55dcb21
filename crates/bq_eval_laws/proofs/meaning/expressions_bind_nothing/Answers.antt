use Rattle.bq_eval_laws.proofs.Frames.{expressions}
use Rattle.bq_eval_laws.proofs.meaning.expressions_bind_nothing.Goals as goal

pub returns : goal.returns
returns c k m scoping = expressions m scoping
