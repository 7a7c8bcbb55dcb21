use Rattle.std.proofs.Common.{◌≡◌, ◌≤◌, ◌-◌, length, drop}
use Rattle.std.specs.Prelude.{option_map}
use Rattle.bq_source.specs.StringLiteral.{items, values}
use Rattle.bq_source.proofs.Items.{joined}
use Rattle.bq_source.proofs.string_literal.unescaped.Given as goal

abbrev pub invariant-items : goal.invariant-items
invariant-items l = record {
  same : option_map values (items l.quoting 0 l.body) ≡ joined l.value.items (items l.quoting 0 (drop l.at l.body));
  within : l.at ≤ length l.body;
}

abbrev pub decreases-items : goal.decreases-items
decreases-items l = length l.body - l.at
