use Rattle.std.proofs.Common.{◌≡◌, ◌∙◌, Some, None, sym, ap, rules, get_or, position}
use Rattle.std.specs.declared.cmp.Ordering.{Ordering}
use Rattle.std.specs.declared.cmp.Ordering.TheVariants.{Equal}
use Rattle.std.specs.Ordering.{nat_cmp}
use Rattle.std.specs.Cmp.Lexicographic.{slice_cmp}
use Rattle.std.proofs.lemmas.Fn.{always_returns_same}
use Rattle.bq_label.specs.Label.{full_form}
use Rattle.bq_label_set.specs.Labels.{same_label}
use Rattle.bq_package_target.specs.declared.target.Target.{Target}
use Rattle.bq_query_target_graph.specs.Order.{target_labels}
use Rattle.bq_query_target_graph.proofs.Places.{found_place, no_place}
use Rattle.bq_query_target_graph.proofs.numbers.Numbers.number_near.Goals as goal

pub returns-in-Ok-binary_search_by : goal.returns-in-Ok-binary_search_by
returns-in-Ok-binary_search_by c =
    let ts = c.self.inside.targets.now in
    let l = c.args.label.now in
    let place = c.in-Ok-binary_search_by.place in
    let against : Target → Ordering = λ t. slice_cmp nat_cmp (full_form t.label) (full_form l) in
    let found : (d : Target) → slice_cmp nat_cmp (full_form (get_or ts place d).label) (full_form l) ≡ Equal = c.in-Ok-binary_search_by.ensures.position against (always_returns_same _ _ _ (λ a r q k. search rules)) in
    let t : Target = c.index-self-place.result in
    let there : position (same_label l) (target_labels ts) ≡ Some place = found_place ts c.self.invariant place t l c.in-Ok-binary_search_by.ensures.bound c.name-other.ensures.valid c.name-name.ensures.valid (found t) in
    let seen : target_labels ts ≡ c.args.self.now = c.self.view_is in
    sym there ∙ ap (position (same_label l)) seen

pub returns-in-Err-binary_search_by : goal.returns-in-Err-binary_search_by
returns-in-Err-binary_search_by c =
    let ts = c.self.inside.targets.now in
    let l = c.args.label.now in
    let against : Target → Ordering = λ t. slice_cmp nat_cmp (full_form t.label) (full_form l) in
    let nowhere : position (same_label l) (target_labels ts) ≡ None = no_place ts c.self.invariant l _ (c.in-Err-binary_search_by.ensures.position against (always_returns_same _ _ _ (λ a r q k. search rules))) in
    let seen : target_labels ts ≡ c.args.self.now = c.self.view_is in
    sym nowhere ∙ ap (position (same_label l)) seen
