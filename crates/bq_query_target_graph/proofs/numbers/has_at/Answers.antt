use Rattle.std.proofs.Common.{sym, arith, rules}
use Rattle.std.proofs.lemmas.Grind.{common_steps}
use Rattle.bq_label_set.specs.Labels.{same_label}
use Rattle.bq_query_target_graph.proofs.Places.{at_place_by}
use Rattle.bq_query_target_graph.proofs.numbers.has_at.Goals as goal

pub returns-then-eq-2 : goal.returns-then-eq-2
unfolding same_label
returns-then-eq-2 c = at_place_by c.args.targets.now c.requires c.args.number c.in-Some.target.now c.args.label.now _ (sym c.in-Some.ensures) (first_of (search rules, grind (arith, common_steps)))
