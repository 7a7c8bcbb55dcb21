use Rattle.std.proofs.Common.{◌≡◌, ◌++◌, map, drop}
use Rattle.bq_load.specs.Views.{outcome_view}
use Rattle.bq_load.specs.Loading.{loading_of}
use Rattle.bq_load.specs.Results.{outcomes_from}
use Rattle.bq_load.proofs.loading.Loading.outcomes.Given as goal

-- the outcomes so far, with those of the modules that are left
abbrev pub invariant-loop-m : goal.invariant-loop-m
invariant-loop-m l = map outcome_view l.all.items ++ outcomes_from (loading_of l.self) l.edges l.m (drop l.m l.self.modules.now) ≡ outcomes_from (loading_of l.self) l.edges 0 l.self.modules.now
