use Rattle.std.proofs.Common.{Bool, false, length, subst, arith}
use Rattle.bq_load_discover.specs.Exploring.{AfterReading}
use Rattle.bq_load_discover.proofs.Exploring.{ends, too_many}
use Rattle.bq_load_discover.proofs.exploration.read_rest.Goals as goal

pub returns-then-len-limits : goal.returns-then-len-limits
returns-then-len-limits c =
    let e = c.loop.exploration in
    too_many c.args.limits c.args.inputs.now e.found e.read.items c.loop.invariant.explores (omega (arith, c.len.ensures, e.read.ok, c.if-len-limits.true))

pub returns-then-not-branch : goal.returns-then-not-branch
returns-then-not-branch c =
    let ls = c.read_next.new.self.found in
    let ms = c.read_next.new.self.read.items in
    let n = length c.loop.exploration.read.items in
    let a : AfterReading false n ls ms = subst (λ (b : Bool). AfterReading b n ls ms) c.if-not-branch.true c.in_ok-read_next.ensures.more in
    ends c.args.limits c.args.inputs.now ls ms c.in_ok-read_next.ensures.explores (omega (arith, a.0, a.1)) (omega (arith, a.0, c.len.ensures, c.loop.exploration.read.ok, c.if-len-limits.false))

pub returns : goal.returns
returns c = too_many c.args.limits c.args.inputs.now c.loop.exploration.found c.loop.exploration.read.items c.loop.invariant.explores (omega (arith, c.loop.invariant.read, c.loop-test.false))
