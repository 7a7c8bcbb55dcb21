use Rattle.std.proofs.Common.{◌≡◌, IfOk, subst}
use Rattle.bq_load_module.specs.Outcomes.{run_of}
use Rattle.bq_load_module.specs.Calls.{HeldPackage, meaning}
use Rattle.bq_load_order.specs.SharedOutcomes.{told}
use Rattle.bq_load.specs.Views.{module_view, failed_view}
use Rattle.bq_load.specs.Evaluation.{module_after}
use Rattle.bq_load.proofs.loading.Loading.run.Goals as goal

pub returns : goal.returns
returns c =
    let x = c.args.module.now in
    let own = c.args.self.now in
    subst (λ (k : HeldPackage). IfOk c.load_module.result (λ r. told module_view failed_view r ≡ module_after x.file.now x.imports.now (run_of own.built_ins meaning x own.limit k))) c.in_ok-host.ensures c.load_module.ensures
