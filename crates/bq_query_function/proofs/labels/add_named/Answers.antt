use Rattle.std.proofs.Common.{◌≡◌, [], ap, refl, rules, arith}
use Rattle.std.proofs.lemmas.Grind.{common_steps}
use Rattle.bq_query_function.specs.Labels.{labels_named, is_among}
use Rattle.bq_query_function.proofs.Tests.{adds_none}
use Rattle.bq_query_function.proofs.labels.add_named.Goals as goal

pub returns-in-None : goal.returns-in-None
unfolding labels_named
returns-in-None c =
    let none : labels_named c.args.name.now c.args.target.now ≡ [] = first_of (search rules, grind (arith, common_steps)) in
    adds_none (is_among (labels_named c.args.name.now c.args.target.now)) c.args.targets.now c.args.marks.now.items c.args.marks.now.items (λ t. ap (λ ls. is_among ls t) none) refl

pub returns-in_default : goal.returns-in_default
unfolding labels_named
returns-in_default c =
    let none : labels_named c.args.name.now c.args.target.now ≡ [] = first_of (search rules, grind (arith, common_steps)) in
    adds_none (is_among (labels_named c.args.name.now c.args.target.now)) c.args.targets.now c.args.marks.now.items c.args.marks.now.items (λ t. ap (λ ls. is_among ls t) none) refl
