use Rattle.std.proofs.Common.{◌≡◌, sym, subst, ◌-◌, arith}
use Rattle.std.proofs.lemmas.Grind.{common_steps}
use Rattle.std.specs.Prelude.{codes}
use Rattle.bq_base.specs.Gives.{Gives}
use Rattle.bq_value.specs.declared.error.EvalErr.TheVariants.{Bad}
use Rattle.bq_value.specs.Looked.{Looked}
use Rattle.bq_value_text.specs.Page.{PageView}
use Rattle.bq_value_text.specs.Shown.{shown_at, list_shown, contents_shown}
use Rattle.bq_value_text.proofs.Steps.{tuple_step, cell_step}
use Rattle.bq_value_text.proofs.shown.+show.Goals as goal

pub show-returns-in-Tuple : goal.show-returns-in-Tuple
show-returns-in-Tuple t c =
    let e : shown_at c.args.levels c.args.store.now c.args.page.now c.args.steps c.args.value.now
    ≡ list_shown (shown_at (c.args.levels - 1) c.args.store.now) (codes "(") c.tuple_end.result.now c.args.page.now (c.args.steps - 1) c.deref-in-Tuple-3.result.now = grind (arith, common_steps, tuple_step) in
    let P : Looked PageView → Type 0 = λ r. Gives (λ left. (c.show_items.new.page, left)) (λ kind. Bad kind) c.show_items.result r in
    subst P (sym e) c.show_items.ensures

pub show-returns-in-Some : goal.show-returns-in-Some
show-returns-in-Some t c =
    let e : shown_at c.args.levels c.args.store.now c.args.page.now c.args.steps c.args.value.now
    ≡ contents_shown (shown_at (c.args.levels - 1) c.args.store.now) c.args.page.now (c.args.steps - 1) c.in-Some.content.now = grind (arith, common_steps, cell_step) in
    let P : Looked PageView → Type 0 = λ r. Gives (λ left. (c.show_content.new.page, left)) (λ kind. Bad kind) c.show_content.result r in
    subst P (sym e) c.show_content.ensures
