use Rattle.std.proofs.Common.{◌≡◌, IfSome, sym, subst}
use Rattle.bq_builtin_machine.specs.Action.{Run, HostDoes}
use Rattle.bq_builtin_machine.specs.State.{State}
use Rattle.bq_eval_spec.specs.Frame.{Frame}
use Rattle.bq_eval_frame.specs.Slots.{slots_of}
use Rattle.bq_eval.specs.Runtime.{primitives, machine_of}
use Rattle.bq_eval.specs.Module.{ended, kept_after}
use Rattle.bq_eval.specs.Outcomes.{ended_of}
use Rattle.bq_eval.proofs.Ends.{host_does}
use Rattle.bq_eval.proofs.Starts.{run_from, run_starts}
use Rattle.bq_eval.proofs.evaluate.evaluate.Goals as goal

pub returns-clause-outcome : goal.returns-clause-outcome
returns-clause-outcome g c =
    let h = g.H.Host in
    let x = c.args.module.now in
    let kept = h.seen c.args.host in
    let e = run_starts g.K.RuleNames.rules h.means x c.args.limit kept c.in_ok-store.store c.new-machine.result c.in_ok-store.ensures c.new-machine.ensures in
    let run = run_from g.K.RuleNames.rules h.means x c.new-machine.result kept in
    let m = primitives g.K.RuleNames.rules h.means in
    let before = c.new-evaluation.result in
    let after = c.run_module-ran.new.runtime in
    let d = host_does m (machine_of g.K.RuleNames.rules h.means) slots_of c.run_module-ran.result after.machine (h.seen after.host) (run_from g.K.RuleNames.rules h.means x before.machine (h.seen before.host)) c.run_module-ran.ensures in
    let ran : HostDoes slots_of c.run_module-ran.result c.into_parts-machine.result.0 (h.seen c.into_parts-machine.result.1) run =
    rw c.into_parts-machine.ensures.machine rw c.into_parts-machine.ensures.host rw (sym c.new-evaluation.ensures.machine) rw (sym c.new-evaluation.ensures.host) d in
    let P : Run (State × h.Kept) Frame → Type 0 = λ r. ended_of c.in_ok-outcome.outcome ≡ ended x.file.now x.imports.now r in
    subst P e (c.in_ok-outcome.ensures.outcome run ran)

pub returns-clause-host : goal.returns-clause-host
returns-clause-host g c =
    let h = g.H.Host in
    let x = c.args.module.now in
    let kept = h.seen c.args.host in
    let e = run_starts g.K.RuleNames.rules h.means x c.args.limit kept c.in_ok-store.store c.new-machine.result c.in_ok-store.ensures c.new-machine.ensures in
    let run = run_from g.K.RuleNames.rules h.means x c.new-machine.result kept in
    let m = primitives g.K.RuleNames.rules h.means in
    let before = c.new-evaluation.result in
    let after = c.run_module-ran.new.runtime in
    let d = host_does m (machine_of g.K.RuleNames.rules h.means) slots_of c.run_module-ran.result after.machine (h.seen after.host) (run_from g.K.RuleNames.rules h.means x before.machine (h.seen before.host)) c.run_module-ran.ensures in
    let ran : HostDoes slots_of c.run_module-ran.result c.into_parts-machine.result.0 (h.seen c.into_parts-machine.result.1) run =
    rw c.into_parts-machine.ensures.machine rw c.into_parts-machine.ensures.host rw (sym c.new-evaluation.ensures.machine) rw (sym c.new-evaluation.ensures.host) d in
    let P : Run (State × h.Kept) Frame → Type 0 = λ r. IfSome (kept_after r) (λ k. h.seen c.into_parts-machine.result.1 ≡ k) in
    subst P e (c.in_ok-outcome.ensures.host run ran)
