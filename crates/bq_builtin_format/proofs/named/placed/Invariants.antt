use Rattle.std.proofs.Common.{◌≡◌, ◌++◌, map, drop}
use Rattle.bq_builtin_format.proofs.named.placed.Given as goal

-- the names so far, and those that are left
abbrev pub invariant-loop-name : goal.invariant-loop-name
invariant-loop-name l = l.places ++ map (λ p. p.0) (drop l.name-index l.pairs) ≡ map (λ p. p.0) l.pairs
