use Rattle.std.proofs.Common.{◌≡◌, ◌∙◌, ap, List, ℕ, subst}
use Rattle.std.specs.Prelude.{◌&&◌}
use Rattle.bq_query_function.specs.Beginnings.{AddsValid, Beginning, begins, beneath, is_wanted}
use Rattle.bq_query_function.proofs.Tests.{on_ok}
use Rattle.bq_query_function.proofs.pattern.add_beneath.Goals as goal

pub returns : goal.returns
returns c =
    let pair : List ℕ → Beginning = λ s. (s, 47) in
    let same : pair c.deref.result.now ≡ beneath c.args.id.now = ap pair c.deref.ensures.value ∙ c.in_ok-text.ensures in
    let adds : Beginning → Type 0 = λ b. AddsValid (λ t. begins b t && is_wanted c.args.rules t) c.args.targets.now c.args.marks.now.items c.add_beginning.new.marks.items in
    on_ok c.add_beginning.result (adds (pair c.deref.result.now)) (adds (beneath c.args.id.now)) (λ a. subst adds same a) c.add_beginning.ensures
