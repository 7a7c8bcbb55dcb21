use Rattle.std.proofs.Common.{rules, Bool}
use Rattle.std.specs.Ordering.{is_lt}
use Rattle.std.proofs.lemmas.List.Sorted.{ranks_by, answers_always}
use Rattle.bq_load_discover.specs.declared.modules.Module.{Module}
use Rattle.bq_load_discover.specs.Module.{module_cmp, module_cmp_total}
use Rattle.bq_load_discover.proofs.order.sorted.Goals as goal

pub returns-clause-ascending : goal.returns-clause-ascending
returns-clause-ascending c =
    let below : Module → Module → Bool = λ a b. is_lt (module_cmp a b) in
    c.sort_unstable_by.ensures.sorted below (ranks_by module_cmp_total (λ (m : Module). m)) (answers_always _ _ _ (λ f a r q k. search rules))
