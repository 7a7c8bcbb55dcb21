use Rattle.std.proofs.Common.{◌≡◌, Result, IfOk, subst}
use Rattle.bq_eval.specs.Outcomes.{ended_of, run_of}
use Rattle.bq_package.specs.Calls.{held_by, meaning}
use Rattle.bq_load_order.specs.SharedOutcomes.{told}
use Rattle.bq_load_module.specs.Views.{ModuleView, FailedView, module_view, failed_view}
use Rattle.bq_load_module.proofs.Endings.{ended_is}
use Rattle.bq_load_module.proofs.run.load_module.Goals as goal

pub returns : goal.returns
returns c =
    let x = c.args.module.now in
    let e = c.in_ok-evaluated.evaluated in
    let run = run_of c.args.built_ins.now meaning x c.args.limit (held_by c.args.host) in
    let is = ended_is x.file.now x.imports.now run (ended_of e.outcome) c.in_ok-evaluated.ensures.outcome (held_by e.host) c.in_ok-evaluated.ensures.host in
    subst (λ (z : Result ModuleView FailedView). IfOk c.module_by.result (λ r. told module_view failed_view r ≡ z)) is c.module_by.ensures
