use Rattle.std.proofs.Common.{List, ℕ, Ok, subst}
use Rattle.bq_base.specs.Gives.{Gives}
use Rattle.bq_value.specs.declared.error.EvalErr.TheVariants.{Bad}
use Rattle.bq_package_values.specs.Steps.{and_then}
use Rattle.bq_package.specs.Place.{place_of}
use Rattle.bq_package.specs.Groups.{group, group_labels, group_of}
use Rattle.bq_package.proofs.place.Place.group_of.Goals as goal

pub returns : goal.returns
unfolding group_of
returns c =
    rw (c.in_ok-name.ensures, c.in_ok-includes.ensures)
    (subst (λ (z : List (List ℕ)). Gives (λ t. t) Bad c.labelled_group.result (and_then (group_labels (place_of c.args.self.now) c.args.first c.in_ok-name.name z) (λ r. Ok (group c.args.line r.0 r.1)))) c.as_slice.ensures c.labelled_group.ensures)
