use Rattle.std.proofs.Common.{arith}
use Rattle.std.proofs.lemmas.Grind.{common_steps}
use Rattle.bq_eval_spec.specs.Slots.{by_slots}
use Rattle.bq_eval_spec.specs.Statements.{run_to}
use Rattle.bq_eval_frame.specs.Slots.{slots_of}
use Rattle.bq_eval_rules.specs.Round.{evals}
use Rattle.bq_eval_rules.proofs.Running.{line_runs, branches_run, loop_runs, no_def_runs}
use Rattle.bq_eval_rules.proofs.statements.Runner.stmt.Goals as goal

pub returns-in-Simple : goal.returns-in-Simple
returns-in-Simple g c =
    let h = g.R.Runtime in
    let e = evals h.means c.args.self.now.reader.context.now in
    rw (line_runs h.means e (run_to c.args.self.now.depth h.means by_slots e) c.args.stmt.now (slots_of c.args.frame.now) (h.seen c.args.runtime.now) _ c.in-Simple.is) (grind (arith, common_steps))

pub returns-in-If : goal.returns-in-If
returns-in-If g c =
    let h = g.R.Runtime in
    let e = evals h.means c.args.self.now.reader.context.now in
    rw (branches_run h.means e (run_to c.args.self.now.depth h.means by_slots e) c.args.stmt.now (slots_of c.args.frame.now) (h.seen c.args.runtime.now) _ _ c.in-If.is) (grind (arith, common_steps))

pub returns-in-For : goal.returns-in-For
returns-in-For g c =
    let h = g.R.Runtime in
    let e = evals h.means c.args.self.now.reader.context.now in
    rw (loop_runs h.means e (run_to c.args.self.now.depth h.means by_slots e) c.args.stmt.now (slots_of c.args.frame.now) (h.seen c.args.runtime.now) _ _ _ c.in-For.is) (grind (arith, common_steps))

pub returns-in-Def : goal.returns-in-Def
returns-in-Def g c =
    let h = g.R.Runtime in
    let e = evals h.means c.args.self.now.reader.context.now in
    rw (no_def_runs h.means e (run_to c.args.self.now.depth h.means by_slots e) c.args.stmt.now (slots_of c.args.frame.now) (h.seen c.args.runtime.now) _ _ _ c.in-Def.is) (grind (arith, common_steps))
