-- what is left to feed leads to the end
use Rattle.std.proofs.Common.{◌≡◌, drop}
use Rattle.std.specs.Prelude.{fold}
use Rattle.bq_value_datum.specs.Datum.{weight, weights, data_of}
use Rattle.bq_value_datum.specs.Same.{feed_all}
use Rattle.bq_value_datum.proofs.same.+feed.Given as goal

abbrev pub decreases-feed_value : goal.decreases-feed_value
decreases-feed_value g l = weight l.value.now

abbrev pub decreases-feed_values : goal.decreases-feed_values
decreases-feed_values g l = weights (data_of l.values.now)

abbrev pub invariant-feed_values-loop-value : goal.invariant-feed_values-loop-value
invariant-feed_values-loop-value g l =
    fold g.H.Hasher.write l.fn.state (feed_all (data_of l.values)) ≡ fold g.H.Hasher.write l.state (feed_all (data_of (drop l.value-index l.values)))
