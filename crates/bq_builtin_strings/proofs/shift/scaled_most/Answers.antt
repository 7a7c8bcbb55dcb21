use Rattle.std.proofs.Common.{arith}
use Rattle.std.proofs.lemmas.Int.{ints}
use Rattle.bq_builtin_strings.proofs.Shifts.{most_zero, most_minus, most_none}
use Rattle.bq_builtin_strings.proofs.shift.scaled_most.Goals as goal

pub returns-then-x-eq0 : goal.returns-then-x-eq0
returns-then-x-eq0 c = most_zero c.args.x (omega (arith, ints))

pub returns-then-x-eqminus1 : goal.returns-then-x-eqminus1
returns-then-x-eqminus1 c = most_minus c.args.x (omega (arith, ints))

pub returns : goal.returns
returns c = most_none c.args.x (λ e. omega (arith, ints, e)) (λ e. omega (arith, ints, e))
