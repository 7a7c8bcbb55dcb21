use Rattle.std.proofs.Common.{◌∙◌, arith, FitsSigned, w64}
use Rattle.std.proofs.lemmas.Int.{to_z-of_z}
use Rattle.bq_builtin_strings.proofs.Shifts.{one_up, scaled_is}
use Rattle.bq_builtin_strings.proofs.shift.scaled.Goals as goal

pub returns-then-count-eq63 : goal.returns-then-count-eq63
returns-then-count-eq63 c =
    let fx : FitsSigned w64 c.args.x = c.ranges.x in
    rw c.if-count-eq63.true (rw (to_z-of_z w64 c.args.x fx) at c.scaled_most.ensures)

pub returns : goal.returns
returns c =
    let fx : FitsSigned w64 c.args.x = c.ranges.x in
    rw (to_z-of_z w64 c.args.x fx, one_up c.args.count (omega arith)) at c.multiply.ensures ∙ scaled_is c.args.x c.args.count
