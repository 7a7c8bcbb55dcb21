use Rattle.std.proofs.Common.{◌≡◌, ◌∷◌, ◌++◌, drop, map}
use Rattle.bq_eval_frame.proofs.inner.Inner.layers.Given as goal

abbrev pub invariant-loop-bound : goal.invariant-loop-bound
invariant-loop-bound l = map (λ b. b.now) l.layers.items ++ map (λ b. b.now) (drop l.bound-index l.self.around.items) ≡ l.self.bound ∷ map (λ b. b.now) l.self.around.items
