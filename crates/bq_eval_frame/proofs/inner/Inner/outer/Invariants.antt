use Rattle.std.proofs.Common.{◌≡◌, drop, map}
use Rattle.bq_eval_frame.specs.Slots.{layered}
use Rattle.bq_eval_frame.proofs.inner.Inner.outer.Given as goal

abbrev pub invariant-loop-bound : goal.invariant-loop-bound
invariant-loop-bound l = layered (map (λ b. b.now) (drop l.bound-index l.self.around.items)) l.self.function.now l.slot ≡ layered (map (λ b. b.now) l.self.around.items) l.self.function.now l.slot
