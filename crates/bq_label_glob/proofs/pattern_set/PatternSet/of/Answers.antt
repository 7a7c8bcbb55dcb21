use Rattle.std.proofs.Common.{◌||◌, Bool, ap}
use Rattle.std.specs.List.{list_any}
use Rattle.bq_label_glob.specs.Matching.{matches}
use Rattle.bq_label_glob.specs.PatternSet.{is_match}
use Rattle.bq_label_glob.proofs.Sets.{adds_next, all_added}
use Rattle.bq_label_glob.proofs.pattern_set.PatternSet.of.Goals as goal

pub loop-pattern-init : goal.loop-pattern-init
loop-pattern-init c = λ n. ap (λ (b : Bool). b || list_any (λ p. matches p n) c.args.patterns.now) (c.new-set.ensures n)

pub loop-pattern-preserved : goal.loop-pattern-preserved
loop-pattern-preserved c =
    λ n. adds_next (λ p. matches p n) c.args.patterns.now c.loop-pattern.pattern-index c.pattern-item.result (is_match c.loop-pattern.set n) (is_match c.add.new.self n) c.loop-pattern-test.true c.pattern-item.is (c.in_ok-add.ensures n) (c.loop-pattern.invariant n)

pub returns : goal.returns
returns c = λ n. all_added (λ p. matches p n) c.args.patterns.now c.loop-pattern.pattern-index (is_match c.loop-pattern.set n) c.loop-pattern-test.false (c.loop-pattern.invariant n)
