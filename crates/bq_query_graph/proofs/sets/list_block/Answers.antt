use Rattle.std.proofs.Common.{◌≡◌, ℕ, subst, arith}
use Rattle.bq_query_graph.specs.Marks.{HeldBelow}
use Rattle.bq_query_graph.proofs.Listings.{listed_skip, listed_more, listed_over}
use Rattle.bq_query_graph.proofs.sets.list_block.Goals as goal

pub returns-then-are_clear : goal.returns-then-are_clear
returns-then-are_clear c = listed_over c.args.marks.now c.args.from c.args.to c.args.listed.now.items c.requires.order (c.are_clear.ensures c.if-are_clear.true) c.requires.listed

pub loop-i-preserved-then-not-marks-i : goal.loop-i-preserved-then-not-marks-i
loop-i-preserved-then-not-marks-i c = listed_skip c.args.marks.now c.loop-i.i c.loop-i.listed.items c.if-not-marks-i.true c.loop-i.invariant

pub loop-i-preserved : goal.loop-i-preserved
loop-i-preserved c = rw c.in_ok-push.ensures.items (listed_more c.args.marks.now c.loop-i.i c.loop-i.listed.items c.if-not-marks-i.false c.loop-i.invariant)

pub returns : goal.returns
returns c =
    let end : c.loop-i.i ≡ c.args.to = omega (arith, c.requires.order) in
    subst (λ (k : ℕ). HeldBelow c.args.marks.now k c.loop-i.listed.items) end c.loop-i.invariant
