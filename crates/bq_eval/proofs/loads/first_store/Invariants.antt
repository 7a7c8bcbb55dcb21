-- the modules that are left, loaded after those so far, give the store
use Rattle.std.specs.Prelude.{fold}
use Rattle.std.proofs.Common.{◌≡◌, drop}
use Rattle.bq_eval_rules.specs.Round.{views_of}
use Rattle.bq_value.specs.Cells.{loading}
use Rattle.bq_eval.specs.Module.{first_store}
use Rattle.bq_eval.proofs.loads.first_store.Given as goal

abbrev pub invariant-loop-frozen : goal.invariant-loop-frozen
invariant-loop-frozen l = fold loading l.store (views_of (drop l.frozen-index l.loaded)) ≡ first_store l.number (views_of l.loaded)
