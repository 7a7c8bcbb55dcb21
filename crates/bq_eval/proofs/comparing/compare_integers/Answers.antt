use Rattle.std.proofs.Common.{◌≡◌, ◌∙◌, ℤ, Some, sym, ap, subst}
use Rattle.std.proofs.lemmas.Int.{to_z-of_z}
use Rattle.std.specs.Ordering.{int_cmp}
use mir.Syntax.{w64}
use mir.Val.{to_z, of_z}
use Rattle.bq_value.specs.Datum.{Datum}
use Rattle.bq_builtin_machine.specs.State.{State}
use Rattle.bq_builtin_machine.specs.Action.{Does, Run}
use Rattle.bq_eval.specs.Comparing.{integers_compared}
use Rattle.bq_eval.proofs.IntegerComparison.{compared_so}
use Rattle.bq_eval.proofs.comparing.compare_integers.Goals as goal

pub returns-in-Some : goal.returns-in-Some
returns-in-Some c =
    let P : Run State Datum → Type 0 = λ run. Does (λ value. value) c.said.result c.said.new.machine run in
    let x : to_z w64 (of_z w64 c.args.x) ≡ c.args.x = to_z-of_z w64 c.args.x c.ranges.x in
    let y : to_z w64 (of_z w64 c.args.y) ≡ c.args.y = to_z-of_z w64 c.args.y c.ranges.y in
    let said : integers_compared c.args.comparison (int_cmp c.args.x c.args.y) ≡ Some c.in-Some.so =
    ap (λ (z : ℤ). integers_compared c.args.comparison (int_cmp z c.args.y)) (sym x)
    ∙ (ap (λ (z : ℤ). integers_compared c.args.comparison (int_cmp (to_z w64 (of_z w64 c.args.x)) z)) (sym y)
    ∙ (ap (λ order. integers_compared c.args.comparison order) (sym c.cmp.ensures) ∙ (sym c.integers_compared.ensures ∙ c.in-Some.is))) in
    subst P (sym (compared_so c.args.comparison c.args.x c.args.y c.args.machine.now c.in-Some.so said)) c.said.ensures
