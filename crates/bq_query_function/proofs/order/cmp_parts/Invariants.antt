use Rattle.std.proofs.Common.{◌≡◌, length}
use Rattle.std.specs.List.{flat_map}
use Rattle.std.specs.Ordering.{nat_cmp}
use Rattle.std.specs.Cmp.Lexicographic.{slice_cmp}
use Rattle.bq_query_function.proofs.order.cmp_parts.Given as goal

abbrev pub invariant-loop-parts : goal.invariant-loop-parts
invariant-loop-parts l = slice_cmp nat_cmp (flat_map (λ p. p.now) l.parts) l.text ≡ slice_cmp nat_cmp (flat_map (λ p. p.now) l.initial.parts) l.initial.text

abbrev pub decreases-loop-parts : goal.decreases-loop-parts
decreases-loop-parts l = length l.parts
