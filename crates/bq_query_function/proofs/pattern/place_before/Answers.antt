use Rattle.std.proofs.Common.{◌≡◌, ◌∙◌, ◌++◌, ◌∷◌, [], List, ℕ, ap, subst}
use Rattle.bq_query_function.specs.Order.{texts_of, IsPlaceOf}
use Rattle.bq_query_function.proofs.pattern.place_before.Goals as goal

pub returns : goal.returns
returns c =
    let same : c.deref.result.now ≡ c.args.start.now ++ c.args.last ∷ [] = c.deref.ensures.value ∙ (c.in_ok-push.ensures.items ∙ ap (λ (t : List ℕ). t ++ c.args.last ∷ []) (c.in_ok-text.ensures.items_if_clones_equal (λ x y e. e))) in
    subst (λ (t : List ℕ). IsPlaceOf (texts_of c.args.targets.now) t c.place_of.result) same c.place_of.ensures
