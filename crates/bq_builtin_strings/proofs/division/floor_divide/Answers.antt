use Rattle.std.proofs.Common.{rules, ◌∙◌, ap, Ok, ℤ, pos, arith, FitsSigned, w64, to_z, of_z}
use Rattle.std.specs.Prelude.{◌-ℤ◌}
use Rattle.std.proofs.lemmas.Int.{ints, to_z-of_z}
use Rattle.bq_builtin_strings.specs.Division.{floor_quotient}
use Rattle.bq_builtin_strings.proofs.Rounding.{no_quotient, up_quotient, down_quotient, back_quotient}
use Rattle.bq_builtin_strings.proofs.division.floor_divide.Goals as goal

pub returns-then-y-eq0 : goal.returns-then-y-eq0
returns-then-y-eq0 c = no_quotient c.args.x c.args.y (omega (arith, ints))

pub returns-then-y-gt0 : goal.returns-then-y-gt0
returns-then-y-gt0 c =
    let fx : FitsSigned w64 c.args.x = c.ranges.x in
    let fy : FitsSigned w64 c.args.y = c.ranges.y in
    let f : FitsSigned w64 c.div_euclid.result = search rules in
    ap Ok (to_z-of_z w64 c.div_euclid.result f) ∙ up_quotient c.args.x c.args.y c.div_euclid.result (omega (arith, ints)) (simp to_z-of_z at c.div_euclid.ensures) f

pub returns-then-x-gt0 : goal.returns-then-x-gt0
returns-then-x-gt0 c =
    let fy : FitsSigned w64 c.args.y = c.ranges.y in
    let q : ℤ = c.div_euclid-then-x-gt0.result in
    let r : ℤ = to_z w64 (of_z w64 (to_z w64 (of_z w64 q) -ℤ pos 1)) in
    let f : FitsSigned w64 q = search rules in
    let g : FitsSigned w64 r = search rules in
    let fits : FitsSigned w64 (to_z w64 (of_z w64 q) -ℤ pos 1) = search rules in
    down_quotient c.args.x c.args.y (to_z w64 (of_z w64 (to_z w64 (of_z w64 c.args.x) -ℤ pos 1))) q r (rw (to_z-of_z w64 c.args.y fy) at c.div_euclid-then-x-gt0.ensures) (omega (arith, ints)) (omega (arith, ints, fits)) (omega (arith, ints)) (omega (arith, ints)) g

pub returns : goal.returns
returns c =
    let fx : FitsSigned w64 c.args.x = c.ranges.x in
    let fy : FitsSigned w64 c.args.y = c.ranges.y in
    let both = back_quotient c.args.x c.args.y c.checked_div.result fy (omega (arith, ints)) (omega (arith, ints)) (simp to_z-of_z at c.checked_div.ensures) in
    c.fit.ensures (floor_quotient c.args.x c.args.y) both.0 ∙ both.1
