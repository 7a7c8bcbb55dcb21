use Rattle.std.proofs.Common.{subst, ℤ, FitsSigned, w64}
use Rattle.std.proofs.lemmas.Int.{to_z-of_z}
use Rattle.bq_base.specs.Gives.{Gives}
use Rattle.bq_value.specs.declared.error.EvalErr.TheVariants.{Bad}
use Rattle.bq_builtin_operators.specs.InPlace.{element_set}
use Rattle.bq_builtin_operators.proofs.Changes.{content_changed}
use Rattle.bq_builtin_operators.proofs.in_place.set_element.Goals as goal

pub returns : goal.returns
returns c =
    let f : FitsSigned w64 c.args.at = c.ranges.at in
    let P : ℤ → Type 0 = λ z. Gives (λ _. (tt, c.element_set.new.content)) (λ why. Bad why) c.element_set.result (element_set z c.args.value c.in_ok-content.content.now) in
    content_changed c.args.list.module c.args.list.number (element_set c.args.at c.args.value) c.args.machine.now c.in_ok-content.content.now c.element_set.new.content c.element_set.result
    c.in_ok-content.ensures.says c.in_ok-content.ensures.now (subst P (to_z-of_z w64 c.args.at f) c.element_set.ensures)
