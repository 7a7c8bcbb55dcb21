use Rattle.std.proofs.Common.{◌≡◌, [], reverse, length}
use Rattle.bq_parse_grammar.specs.Targets.{target_to, targets_from}
use Rattle.bq_parse.proofs.targets.Targets.all.Given as goal

abbrev pub decreases-exprs : goal.decreases-exprs
decreases-exprs g l = length l.left

abbrev pub invariant-exprs : goal.invariant-exprs
invariant-exprs g l = targets_from (target_to l.self.depth) [] l.fn.exprs ≡ targets_from (target_to l.self.depth) l.found (reverse l.left)
