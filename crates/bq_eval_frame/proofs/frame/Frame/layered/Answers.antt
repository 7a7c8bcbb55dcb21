use Rattle.bq_eval_frame.proofs.Slots.{nothing_layered}
use Rattle.bq_eval_frame.proofs.frame.Frame.layered.Goals as goal

pub returns-in-None : goal.returns-in-None
returns-in-None c = nothing_layered c.self.inside.inner c.self.inside.slots.items c.args.self.now c.args.slot c.self.view_is c.in-None.is
