use Rattle.std.proofs.Common.{subst}
use Rattle.std.specs.Prelude.{IfErr, OnOk}
use Rattle.bq_base.specs.declared.limits.Limits.{Limits}
use Rattle.bq_board_plan.specs.Graph.{Fits, lists}
use Rattle.bq_board_plan.specs.Refusal.{RefusedWithin}
use Rattle.bq_board_plan.proofs.plan.Plan.new.Goals as goal

pub returns-clause-fits : goal.returns-clause-fits
returns-clause-fits c = subst (λ (l : Limits). OnOk c.within.result (Fits l (lists c.args.loads.items))) c.standard.ensures.value c.within.ensures.fits

pub returns-clause-refused : goal.returns-clause-refused
returns-clause-refused c = subst (λ (l : Limits). IfErr c.within.result (λ e. RefusedWithin l (lists c.args.loads.items) e)) c.standard.ensures.value c.within.ensures.refused
