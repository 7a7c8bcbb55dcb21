use Rattle.std.proofs.Common.{arith}
use Rattle.std.proofs.lemmas.Grind.{common_steps}
use Rattle.bq_eval_rules.proofs.Taken.{next_named, next_positional, next_star, next_star_star}
use Rattle.bq_eval_rules.proofs.taking.plain_next.Goals as goal

pub returns-in-Positional : goal.returns-in-Positional
returns-in-Positional c = rw (next_positional c.args.argument.now c.args.named _ c.in-Positional.is) (grind (arith, common_steps))

pub returns-in-Named : goal.returns-in-Named
returns-in-Named c = rw (next_named c.args.argument.now c.args.named _ _ c.in-Named.is) (grind (arith, common_steps))

pub returns-in-Star : goal.returns-in-Star
returns-in-Star c = rw (next_star c.args.argument.now c.args.named _ c.in-Star.is) (grind (arith, common_steps))

pub returns-in-StarStar : goal.returns-in-StarStar
returns-in-StarStar c = rw (next_star_star c.args.argument.now c.args.named _ c.in-StarStar.is) (grind (arith, common_steps))
