-- the arguments that are left decide
use Rattle.std.proofs.Common.{◌≡◌, drop, false}
use Rattle.bq_eval_rules.specs.Taking.{are_plain}
use Rattle.bq_eval_rules.proofs.taking.are_plain.Given as goal

abbrev pub invariant-loop-argument : goal.invariant-loop-argument
invariant-loop-argument l = are_plain (drop l.argument-index l.arguments) l.named ≡ are_plain l.arguments false
