use Rattle.std.proofs.Common.{◌≡◌, ◌∙◌, ℕ, false, get_or, subst, arith}
use Rattle.std.specs.Bool.{Decides}
use Rattle.bq_query_graph.specs.Paths.{EndsWithin}
use Rattle.bq_query_graph.specs.Marks.{Step, Both}
use Rattle.bq_query_graph.proofs.Spreads.{stands_start, stands_next, within_all, within_end}
use Rattle.bq_query_graph.proofs.search.within.Goals as goal

pub loop-n-init : goal.loop-n-init
loop-n-init c = record {
  long = c.in_ok-marks.ensures.0 ∙ c.requires.seeds;
  stands = stands_start (Step c.args.graph.now c.args.allowed.now) (Both c.args.seeds.now c.args.allowed.now) _ c.in_ok-marks.marks.items c.deref.result.now c.in_ok-queue.queue.items c.deref.ensures.value c.in_ok-queue.ensures.members c.in_ok-marks.ensures;
}

pub returns-then-head-len : goal.returns-then-head-len
returns-then-head-len c = (
  c.loop-n.invariant.long,
  within_end (Step c.args.graph.now c.args.allowed.now) (Both c.args.seeds.now c.args.allowed.now) c.loop-n.n c.args.limit c.loop-n.marks.items c.loop-n.queue.items c.loop-n.head (omega arith) (omega (arith, c.if-head-len.true, c.len.ensures)) c.loop-n.invariant.stands,
)

pub loop-n-preserved : goal.loop-n-preserved
loop-n-preserved c = record {
  long = c.in_ok-head.ensures.grew.long ∙ c.loop-n.invariant.long;
  stands = stands_next c.args.graph.now c.args.allowed.now (Both c.args.seeds.now c.args.allowed.now) c.loop-n.n c.loop-n.marks.items c.loop-n.queue.items c.loop-n.head c.level.new.marks.items c.level.new.queue.items c.in_ok-head.head c.in_ok-head.ensures.end c.loop-n.invariant.stands c.in_ok-head.ensures.grew;
}

pub returns : goal.returns
returns c =
    let E = Step c.args.graph.now c.args.allowed.now in
    let S = Both c.args.seeds.now c.args.allowed.now in
    let end : c.loop-n.n ≡ c.args.limit = omega arith in (
      c.loop-n.invariant.long,
      subst (λ (k : ℕ). (y : ℕ) → Decides (get_or c.loop-n.marks.items y false) (EndsWithin E S k y)) end
          (within_all E S c.loop-n.n c.loop-n.marks.items c.loop-n.queue.items c.loop-n.head c.loop-n.invariant.stands),
    )
