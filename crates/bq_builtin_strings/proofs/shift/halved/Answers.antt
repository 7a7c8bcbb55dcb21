use Rattle.std.proofs.Common.{rules, ◌∙◌, ap, ℤ, FitsSigned, w64, to_z, of_z}
use Rattle.std.proofs.lemmas.Int.{to_z-of_z}
use Rattle.std.specs.Int.{int_shr}
use Rattle.bq_builtin_strings.proofs.Shifts.{shr_is}
use Rattle.bq_builtin_strings.proofs.shift.halved.Goals as goal

pub returns : goal.returns
returns c =
    let fx : FitsSigned w64 c.args.x = c.ranges.x in
    let f : FitsSigned w64 (int_shr c.args.x c.args.count) = search rules in
    ap (λ (z : ℤ). to_z w64 (of_z w64 (int_shr z c.args.count))) (to_z-of_z w64 c.args.x fx) ∙ (to_z-of_z w64 (int_shr c.args.x c.args.count) f ∙ shr_is c.args.x c.args.count)
