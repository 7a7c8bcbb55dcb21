use Rattle.std.proofs.Common.{◌≡◌, ◌∷◌}
use Rattle.bq_eval_frame.specs.Slots.{slots_of}
use Rattle.bq_eval_rules.specs.ComprehensionClauses.{element_in}
use Rattle.bq_eval_rules.specs.Nests.{nested}
use Rattle.bq_eval_rules.specs.OpenLoops.{loop_left, loop_of, loops_count, loops_left, loops_of}
use Rattle.bq_eval_rules.proofs.comprehensions.Comprehension.turns.Given as goal

-- what the loops that are open still do is what the first one does
abbrev pub invariant-loop-innermost : goal.invariant-loop-innermost
invariant-loop-innermost g l =
    let h = g.R.Runtime in
    let e = nested h.means l.self.rules.now.depth l.self.rules.now.context.now in
    let b = element_in h.means l.self.rules.now l.self.element in
    loops_left h.means e b (loop_of l.innermost ∷ loops_of l.outer.items) (slots_of l.frame) l.content (h.seen l.runtime)
    ≡ loop_left h.means e b (loop_of l.fn.first) (slots_of l.fn.frame) l.fn.content (h.seen l.fn.runtime)

-- each time around, a turn begins or a loop ends
abbrev pub decreases-loop-innermost : goal.decreases-loop-innermost
decreases-loop-innermost g l =
    let h = g.R.Runtime in
    let e = nested h.means l.self.rules.now.depth l.self.rules.now.context.now in
    loops_count h.means e (element_in h.means l.self.rules.now l.self.element) (loop_of l.innermost ∷ loops_of l.outer.items) (slots_of l.frame) l.content (h.seen l.runtime)
