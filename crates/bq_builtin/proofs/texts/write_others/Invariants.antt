-- what is left to write has the answer
use Rattle.std.proofs.Common.{◌≡◌, drop}
use Rattle.bq_builtin.specs.Texts.{others_shown}
use Rattle.bq_builtin.proofs.texts.write_others.Given as goal

abbrev pub invariant-loop-value : goal.invariant-loop-value
invariant-loop-value l = others_shown l.separator l.store l.fn.page l.fn.steps l.values ≡ others_shown l.separator l.store l.page l.left (drop l.value-index l.values)
