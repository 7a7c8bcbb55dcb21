use Rattle.std.proofs.Common.{rules, ◌≡◌, ◌∙◌, length, sym, arith}
use Rattle.bq_base.specs.declared.fault.EvalFault.{EvalFault}
use Rattle.bq_value.specs.declared.error.EvalErr.TheVariants.{Bad}
use Rattle.bq_builtin_machine.specs.Action.{stopped}
use Rattle.bq_builtin_machine.specs.State.{stop_at}
use Rattle.bq_eval_frame.specs.Slots.{slots_of}
use Rattle.bq_eval_rules.specs.ComprehensionClauses.{element_in}
use Rattle.bq_eval_rules.specs.Nests.{nested}
use Rattle.bq_eval_rules.specs.OpenLoops.{loop_left, loop_of, loops_of}
use Rattle.bq_eval_rules.proofs.Next.{none_left, one_left}
use Rattle.bq_eval_rules.proofs.Loops.{end_counts, falls, last_ends, loop_ends, loops_begin, none_counts, none_opens, one_counts, one_opens, opening_stops, turn_stops}
use Rattle.bq_eval_rules.proofs.comprehensions.Comprehension.turns.Goals as goal

pub loop-innermost-init : goal.loop-innermost-init
loop-innermost-init g c =
    let h = g.R.Runtime in
    let e = nested h.means c.args.self.now.rules.now.depth c.args.self.now.rules.now.context.now in
    let b = element_in h.means c.args.self.now.rules.now c.args.self.now.element in
    loops_begin h.means e b (slots_of c.args.frame.now) c.args.content.now (loop_of c.args.first) c.new-outer.result.items (h.seen c.args.runtime.now) c.new-outer.ensures.items

pub returns-in_default-pop : goal.returns-in_default-pop
returns-in_default-pop g c =
    let h = g.R.Runtime in
    let e = nested h.means c.args.self.now.rules.now.depth c.args.self.now.rules.now.context.now in
    let b = element_in h.means c.args.self.now.rules.now c.args.self.now.element in
    let none : length c.loop-innermost.outer.items ≡ 0 = omega (arith, c.in_default-pop.ensures.cases.0) in
    sym c.loop-innermost.invariant ∙ last_ends h.means e b (slots_of c.loop-innermost.frame) c.loop-innermost.content (loop_of c.loop-innermost.innermost) c.loop-innermost.outer.items (h.seen c.loop-innermost.runtime) (h.seen c.end_walk.new.self) (none_left _ _ _ c.in_default.is c.in_ok-value.ensures) c.end_walk.ensures none

pub loop-innermost-preserved-in_default : goal.loop-innermost-preserved-in_default
loop-innermost-preserved-in_default g c =
    let h = g.R.Runtime in
    let e = nested h.means c.args.self.now.rules.now.depth c.args.self.now.rules.now.context.now in
    let b = element_in h.means c.args.self.now.rules.now c.args.self.now.element in
    sym (loop_ends h.means e b (slots_of c.loop-innermost.frame) c.loop-innermost.content (loop_of c.loop-innermost.innermost) c.loop-innermost.outer.items (h.seen c.loop-innermost.runtime) (h.seen c.end_walk.new.self) (none_left _ _ _ c.in_default.is c.in_ok-value.ensures) c.end_walk.ensures c.pop.new.self.items c.in-Some-pop.next c.in-Some-pop.ensures.items) ∙ c.loop-innermost.invariant

pub loop-innermost-smaller-in_default : goal.loop-innermost-smaller-in_default
loop-innermost-smaller-in_default g c =
    let h = g.R.Runtime in
    let e = nested h.means c.args.self.now.rules.now.depth c.args.self.now.rules.now.context.now in
    let b = element_in h.means c.args.self.now.rules.now c.args.self.now.element in
    falls _ _ (end_counts h.means e b (slots_of c.loop-innermost.frame) c.loop-innermost.content (loop_of c.loop-innermost.innermost) c.loop-innermost.outer.items (h.seen c.loop-innermost.runtime) (h.seen c.end_walk.new.self) (none_left _ _ _ c.in_default.is c.in_ok-value.ensures) c.end_walk.ensures c.pop.new.self.items c.in-Some-pop.next c.in-Some-pop.ensures.items)

pub returns-in_err-inside : goal.returns-in_err-inside
returns-in_err-inside g c =
    let h = g.R.Runtime in
    let e = nested h.means c.args.self.now.rules.now.depth c.args.self.now.rules.now.context.now in
    let b = element_in h.means c.args.self.now.rules.now c.args.self.now.element in
    let bad : (why : EvalFault) → c.in_err-inside.field-0.0 ≡ Bad why → loop_left h.means e b (loop_of c.args.first) (slots_of c.args.frame.now) c.args.content.now (h.seen c.args.runtime.now) ≡ stopped (stop_at why (h.means.machine (h.seen c.turn.new.runtime))) =
    λ why is. sym c.loop-innermost.invariant ∙ turn_stops h.means e b (loop_of c.loop-innermost.innermost) (loops_of c.loop-innermost.outer.items) (slots_of c.loop-innermost.frame) c.loop-innermost.content (h.seen c.loop-innermost.runtime) c.in-Some.value c.next.new.self (one_left _ _ _ _ c.in-Some.is c.in_ok-value.ensures) _ (c.in_err-inside.ensures.leaves why is) in
    search (rules, bad)

pub loop-innermost-preserved-in_default-inside : goal.loop-innermost-preserved-in_default-inside
loop-innermost-preserved-in_default-inside g c =
    let h = g.R.Runtime in
    let e = nested h.means c.args.self.now.rules.now.depth c.args.self.now.rules.now.context.now in
    let b = element_in h.means c.args.self.now.rules.now c.args.self.now.element in
    sym (none_opens h.means e b (slots_of c.loop-innermost.frame) c.loop-innermost.content c.loop-innermost.innermost c.loop-innermost.outer.items (h.seen c.loop-innermost.runtime) c.in-Some.value c.next.new.self (one_left _ _ _ _ c.in-Some.is c.in_ok-value.ensures) c.in_ok-inside.inside (slots_of c.turn.new.frame) c.turn.new.content (h.seen c.turn.new.runtime) c.in_ok-inside.ensures.leaves c.in_default-inside.is) ∙ c.loop-innermost.invariant

pub loop-innermost-smaller-in_default-inside : goal.loop-innermost-smaller-in_default-inside
loop-innermost-smaller-in_default-inside g c =
    let h = g.R.Runtime in
    let e = nested h.means c.args.self.now.rules.now.depth c.args.self.now.rules.now.context.now in
    let b = element_in h.means c.args.self.now.rules.now c.args.self.now.element in
    falls _ _ (none_counts h.means e b (slots_of c.loop-innermost.frame) c.loop-innermost.content c.loop-innermost.innermost c.loop-innermost.outer.items (h.seen c.loop-innermost.runtime) c.in-Some.value c.next.new.self (one_left _ _ _ _ c.in-Some.is c.in_ok-value.ensures) c.in_ok-inside.inside (slots_of c.turn.new.frame) c.turn.new.content (h.seen c.turn.new.runtime) c.in_ok-inside.ensures.leaves c.in_ok-inside.ensures.counts c.in_default-inside.is)

pub returns-in_err-innermost : goal.returns-in_err-innermost
returns-in_err-innermost g c =
    let h = g.R.Runtime in
    let e = nested h.means c.args.self.now.rules.now.depth c.args.self.now.rules.now.context.now in
    let b = element_in h.means c.args.self.now.rules.now c.args.self.now.element in
    let bad : (why : EvalFault) → c.in_err-innermost.field-0.0 ≡ Bad why → loop_left h.means e b (loop_of c.args.first) (slots_of c.args.frame.now) c.args.content.now (h.seen c.args.runtime.now) ≡ stopped (stop_at why (h.means.machine (h.seen c.open.new.runtime))) =
    λ why is. sym c.loop-innermost.invariant ∙ opening_stops h.means e b (slots_of c.loop-innermost.frame) c.loop-innermost.content c.loop-innermost.innermost c.loop-innermost.outer.items (h.seen c.loop-innermost.runtime) c.in-Some.value c.next.new.self (one_left _ _ _ _ c.in-Some.is c.in_ok-value.ensures) c.in_ok-inside.inside (slots_of c.turn.new.frame) c.turn.new.content (h.seen c.turn.new.runtime) c.in_ok-inside.ensures.leaves c.in-Some-inside.clause c.in-Some-inside.is _ (c.in_err-innermost.ensures why is) in
    search (rules, bad)

pub loop-innermost-preserved : goal.loop-innermost-preserved
loop-innermost-preserved g c =
    let h = g.R.Runtime in
    let e = nested h.means c.args.self.now.rules.now.depth c.args.self.now.rules.now.context.now in
    let b = element_in h.means c.args.self.now.rules.now c.args.self.now.element in
    sym (one_opens h.means e b (slots_of c.loop-innermost.frame) c.loop-innermost.content c.loop-innermost.innermost c.loop-innermost.outer.items (h.seen c.loop-innermost.runtime) c.in-Some.value c.next.new.self (one_left _ _ _ _ c.in-Some.is c.in_ok-value.ensures) c.in_ok-inside.inside (slots_of c.turn.new.frame) c.turn.new.content (h.seen c.turn.new.runtime) c.in_ok-inside.ensures.leaves c.in-Some-inside.clause c.in-Some-inside.is c.in_ok-innermost.innermost (h.seen c.open.new.runtime) c.in_ok-innermost.ensures c.push.new.self.items c.in_ok-push.ensures.items) ∙ c.loop-innermost.invariant

pub loop-innermost-smaller : goal.loop-innermost-smaller
loop-innermost-smaller g c =
    let h = g.R.Runtime in
    let e = nested h.means c.args.self.now.rules.now.depth c.args.self.now.rules.now.context.now in
    let b = element_in h.means c.args.self.now.rules.now c.args.self.now.element in
    falls _ _ (one_counts h.means e b (slots_of c.loop-innermost.frame) c.loop-innermost.content c.loop-innermost.innermost c.loop-innermost.outer.items (h.seen c.loop-innermost.runtime) c.in-Some.value c.next.new.self (one_left _ _ _ _ c.in-Some.is c.in_ok-value.ensures) c.in_ok-inside.inside (slots_of c.turn.new.frame) c.turn.new.content (h.seen c.turn.new.runtime) c.in_ok-inside.ensures.leaves c.in-Some-inside.clause c.in-Some-inside.is c.in_ok-innermost.innermost (h.seen c.open.new.runtime) c.in_ok-innermost.ensures c.push.new.self.items c.in_ok-push.ensures.items c.in_ok-inside.ensures.counts)
