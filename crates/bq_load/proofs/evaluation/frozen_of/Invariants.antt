use Rattle.std.proofs.Common.{◌≡◌, ◌++◌, map, drop}
use Rattle.bq_load_module.specs.Round.{views_of}
use Rattle.bq_load.specs.Views.{module_views}
use Rattle.bq_load.proofs.evaluation.frozen_of.Given as goal

abbrev pub invariant-loop-loaded : goal.invariant-loop-loaded
invariant-loop-loaded l = views_of l.all.items ++ map (λ v. v.frozen) (module_views (drop l.loaded-index l.modules)) ≡ map (λ v. v.frozen) (module_views l.modules)
