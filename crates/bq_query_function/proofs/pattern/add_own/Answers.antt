use Rattle.std.proofs.Common.{◌≡◌, ◌∙◌, List, ℕ, subst}
use Rattle.std.specs.Prelude.{◌&&◌}
use Rattle.bq_query_function.specs.Words.{package_text}
use Rattle.bq_query_function.specs.Beginnings.{AddsValid, begins, is_wanted}
use Rattle.bq_query_function.proofs.Tests.{on_ok}
use Rattle.bq_query_function.proofs.pattern.add_own.Goals as goal

pub returns-clause-set : goal.returns-clause-set
returns-clause-set c =
    let same : c.deref.result.now ≡ package_text c.args.id.now = c.deref.ensures.value ∙ c.in_ok-text.ensures.text in
    let adds : List ℕ → Type 0 = λ s. AddsValid (λ t. begins (s, 58) t && is_wanted c.args.rules t) c.args.targets.now c.args.marks.now.items c.add_beginning.new.marks.items in
    on_ok c.add_beginning.result (adds c.deref.result.now) (adds (package_text c.args.id.now)) (λ a. subst adds same a) c.add_beginning.ensures
