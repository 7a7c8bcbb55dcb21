use Rattle.std.proofs.Common.{◌≡◌, length, All}
use Rattle.bq_load_order.specs.SharedOutcomes.{seen_value, shown, value_in}
use Rattle.bq_load_workers.proofs.bring.copies.Given as goal

abbrev pub invariant-loop : goal.invariant-loop
invariant-loop g l = record {
  count : length l.copies.items ≡ l.counter;
  same : All (λ x. (x.number ≡ l.number) × (seen_value g.E.Evaluate.see x.value ≡ value_in (shown g.E.Evaluate.see g.E.Evaluate.see_fault l.outcome))) l.copies.items;
}
