use Rattle.std.proofs.Common.{◌≡◌, ◌∙◌, ◌<◌, length, get_or, refl, ap, subst, arith}
use Rattle.bq_load_order.specs.SharedOutcomes.{shown}
use Rattle.bq_load.specs.declared.loading.Loading.{Loading}
use Rattle.bq_load.specs.Views.{module_view, failed_view}
use Rattle.bq_load.specs.Loading.{loading_of}
use Rattle.bq_load.specs.Results.{outcome_by}
use Rattle.bq_load.specs.Pool.{parts_of, loads_of}
use Rattle.bq_load.proofs.Pooled.{evaluated_is}
use Rattle.bq_load.proofs.pool.Pool.evaluated.Goals as goal

pub returns-clause-right : goal.returns-clause-right
returns-clause-right c =
    let self = c.args.self.now in
    let m = c.args.brought.now.number in
    let ms = c.loading-loading.result.now.modules.now in
    let read = get_or ms m c.index-loading-module.result in
    let same = c.loading-loading.ensures.value in
    let below : m < length c.loading-loading.result.now.modules.now = omega (arith, c.requires.known, c.loading-loading.ensures.wide) in
    let along = shown module_view failed_view c.args.brought.now.outcome in
    evaluated_is (parts_of self) (loads_of self) m read
    (subst (λ (l : Loading). m < length l.modules.now) same below)
    (subst (λ (l : Loading). read ≡ get_or l.modules.now m read) same (ap (get_or ms m) c.index-loading-module.is))
    along c.requires.right _ refl
    (c.in_ok-outcome.ensures ∙ ap (λ (l : Loading). outcome_by (loading_of l) read along) same)
    c.in_ok-package.ensures
