use Rattle.std.proofs.Common.{◌≡◌, length}
use Rattle.bq_eval_spec.specs.Comprehensions.{clauses}
use Rattle.bq_eval_spec.specs.Slots.{by_slots}
use Rattle.bq_eval_frame.specs.Slots.{slots_of}
use Rattle.bq_eval_rules.specs.ComprehensionClauses.{element_in}
use Rattle.bq_eval_rules.specs.Nests.{nested}
use Rattle.bq_eval_rules.specs.OpenLoops.{clauses_count}
use Rattle.bq_eval_rules.proofs.evaluator.Evaluator.inward.Given as goal

abbrev pub invariant-loop-rest : goal.invariant-loop-rest
invariant-loop-rest g l =
    let h = g.R.Runtime in
    let e = nested h.means l.self.depth l.self.context.now in
    let b = element_in h.means l.self l.inner.element in
    record {
      left : clauses h.means by_slots e l.rest b (slots_of l.self.frame.now) l.content (h.seen l.runtime) ≡ clauses h.means by_slots e l.inner.clauses.now b (slots_of l.self.frame.now) l.fn.content (h.seen l.fn.runtime);
      count : clauses_count h.means e b l.rest (slots_of l.self.frame.now) l.content (h.seen l.runtime) ≡ clauses_count h.means e b l.inner.clauses.now (slots_of l.self.frame.now) l.fn.content (h.seen l.fn.runtime);
    }

abbrev pub decreases-loop-rest : goal.decreases-loop-rest
decreases-loop-rest g l = length l.rest
