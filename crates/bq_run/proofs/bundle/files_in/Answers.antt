use Rattle.std.proofs.Common.{arith}
use Rattle.std.proofs.lemmas.Grind.{common_steps}
use Rattle.bq_run.proofs.Lines.{too_many}
use Rattle.bq_run.proofs.bundle.files_in.Goals as goal

pub loop-rest-preserved : goal.loop-rest-preserved
loop-rest-preserved c = grind (arith, common_steps)

pub returns-clause-found : goal.returns-clause-found
returns-clause-found c = grind (arith, common_steps)

pub returns-then-len-limits-clause-none : goal.returns-then-len-limits-clause-none
returns-then-len-limits-clause-none c _ = too_many c.args.limits _ _ _ _ _ _ c.loop-rest.invariant c.in-Some.ensures.found (omega (arith, c.len.ensures, c.if-len-limits.true))
