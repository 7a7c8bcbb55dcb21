use Rattle.std.proofs.Common.{◌≡◌, All, map, take}
use Rattle.bq_load.specs.Pool.{parts_of, loads_of, IsEvaluated}
use Rattle.bq_load.proofs.pool.Pool.all_evaluated.Given as goal

abbrev pub invariant-loop-one : goal.invariant-loop-one
invariant-loop-one l = record {
  numbers : map (λ e. e.module) l.all.items ≡ map (λ b. b.number) (take l.one-index l.brought);
  right : All (IsEvaluated (parts_of l.self) (loads_of l.self)) l.all.items;
}
