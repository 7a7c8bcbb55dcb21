use Rattle.std.proofs.Common.{rules, ◌∙◌, ap, Ok, ℤ, pos, arith, FitsSigned, w64, to_z, of_z}
use Rattle.std.specs.Prelude.{◌-ℤ◌}
use Rattle.std.proofs.lemmas.Int.{ints, to_z-of_z}
use Rattle.bq_builtin_strings.proofs.Rounding.{no_rest, up_rest, down_rest, back_rest}
use Rattle.bq_builtin_strings.proofs.division.modulo.Goals as goal

pub returns-then-y-eq0 : goal.returns-then-y-eq0
returns-then-y-eq0 c = no_rest c.args.x c.args.y (omega (arith, ints))

pub returns-then-y-gt0 : goal.returns-then-y-gt0
returns-then-y-gt0 c =
    let fx : FitsSigned w64 c.args.x = c.ranges.x in
    let fy : FitsSigned w64 c.args.y = c.ranges.y in
    let f : FitsSigned w64 c.rem_euclid.result = search rules in
    ap Ok (to_z-of_z w64 c.rem_euclid.result f) ∙ up_rest c.args.x c.args.y c.rem_euclid.result (omega (arith, ints)) (simp to_z-of_z at c.rem_euclid.ensures.value)

pub returns-then-x-gt0 : goal.returns-then-x-gt0
returns-then-x-gt0 c =
    let fy : FitsSigned w64 c.args.y = c.ranges.y in
    let s : ℤ = c.rem_euclid-then-x-gt0.result in
    let f : FitsSigned w64 s = search rules in
    down_rest c.args.x c.args.y (to_z w64 (of_z w64 (to_z w64 (of_z w64 c.args.x) -ℤ pos 1))) s _ (rw (to_z-of_z w64 c.args.y fy) at c.rem_euclid-then-x-gt0.ensures.value) (omega (arith, ints)) (omega (arith, ints)) (omega (arith, ints)) (omega (arith, ints))

pub returns : goal.returns
returns c =
    let fx : FitsSigned w64 c.args.x = c.ranges.x in
    let fy : FitsSigned w64 c.args.y = c.ranges.y in
    let f : FitsSigned w64 c.wrapping_rem.result = search rules in
    ap Ok (to_z-of_z w64 c.wrapping_rem.result f) ∙ back_rest c.args.x c.args.y c.wrapping_rem.result (omega (arith, ints)) (omega (arith, ints)) (simp to_z-of_z at c.wrapping_rem.ensures)
