use Rattle.std.proofs.Common.{◌≡◌, ◌+◌, List, refl, sym, subst, arith, ap, ◌∙◌, length, All}
use Rattle.std.proofs.lemmas.List.{length_push}
use Rattle.std.proofs.lemmas.List.Elements.{All-push}
use Rattle.bq_load_order.specs.SharedOutcomes.{seen_value, shown, value_in}
use Rattle.bq_load_workers.specs.declared.import.Import.{Import}
use Rattle.bq_load_workers.proofs.bring.copies.Goals as goal

pub loop-preserved : goal.loop-preserved
loop-preserved g c = record {
  count = ap length c.in_ok-push.ensures.items ∙ length_push _ _ ∙ ap (λ n. n + 1) c.loop.invariant.count;
  same = subst (λ (xs : List (Import _ _ _)). All (λ x. (x.number ≡ c.args.number) × (seen_value g.E.Evaluate.see x.value ≡ value_in (shown g.E.Evaluate.see g.E.Evaluate.see_fault c.args.outcome.now))) xs) (sym c.in_ok-push.ensures.items)
      (All-push (λ x. (x.number ≡ c.args.number) × (seen_value g.E.Evaluate.see x.value ≡ value_in (shown g.E.Evaluate.see g.E.Evaluate.see_fault c.args.outcome.now))) c.loop.copies.items _ c.loop.invariant.same (refl, c.in_ok-value.ensures));
}

pub returns-clause-count : goal.returns-clause-count
returns-clause-count g c = omega (arith, c.loop.invariant.count, c.loop.copies.ok)

pub returns-clause-same : goal.returns-clause-same
returns-clause-same g c = c.loop.invariant.same
