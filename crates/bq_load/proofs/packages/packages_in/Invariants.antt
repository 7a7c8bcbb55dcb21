use Rattle.std.proofs.Common.{◌≡◌, ◌++◌, map, take, drop}
use Rattle.std.specs.List.{filter_map}
use Rattle.bq_load.specs.Views.{outcome_view}
use Rattle.bq_load.specs.Loaded.{package_in, packages_in}
use Rattle.bq_load.specs.Packages.{AreOwn}
use Rattle.bq_load.proofs.packages.packages_in.Given as goal

abbrev pub invariant-loop-build : goal.invariant-loop-build
invariant-loop-build l = record {
  all : l.all.items ++ filter_map (package_in (map outcome_view l.modules)) (drop l.build-index l.builds) ≡ packages_in l.builds (map outcome_view l.modules);
  own : AreOwn (map outcome_view l.modules) (take l.build-index l.builds);
}
