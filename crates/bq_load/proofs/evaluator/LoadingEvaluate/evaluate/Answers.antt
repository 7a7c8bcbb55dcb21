use Rattle.std.proofs.Common.{◌≡◌, ◌∙◌, List, None, Some, Ok, Err, ap, refl, subst, sym}
use Rattle.std.specs.Prelude.{length, slice_get}
use Rattle.std.proofs.lemmas.Option.{slice_get_past, slice_get_read}
use Rattle.bq_value.specs.Datum.{Datum}
use Rattle.bq_base.specs.declared.fault.FaultKind.{FaultKind}
use Rattle.bq_base.specs.declared.fault.Fault.{Fault}
use Rattle.bq_base.specs.Fault.{fault_as, kind_of_load}
use Rattle.bq_load_order.specs.SharedOutcomes.{told}
use Rattle.bq_load.specs.Views.{module_view, failed_view, module_views, not_evaluated}
use Rattle.bq_load.specs.Loading.{loading_of}
use Rattle.bq_load.specs.Evaluation.{evaluation, module_after}
use Rattle.bq_load.proofs.Meanings.{means_no_module, means_fault, means_file}
use Rattle.bq_load.proofs.evaluator.LoadingEvaluate.evaluate.Goals as goal

pub returns-in_default : goal.returns-in_default
returns-in_default g c =
    let x = loading_of c.args.self.now in
    let none : slice_get x.modules c.args.m ≡ None = slice_get_past x.modules c.args.m c.in_default.ensures.lookup.3 in
    c.not_evaluated.ensures ∙ ap (λ (f : Fault FaultKind). Err (not_evaluated f)) c.at.ensures ∙ sym (means_no_module x c.args.m (module_views c.args.imports.now) none)

pub returns-in-Err : goal.returns-in-Err
returns-in-Err g c =
    let x = loading_of c.args.self.now in
    let s = c.in-Some.module.now in
    let read = c.in-Some.ensures.lookup in
    let there : slice_get x.modules c.args.m ≡ Some s = slice_get_read x.modules (length x.modules) c.args.m s refl read.3.0 read.1 in
    c.not_evaluated-in-Err.ensures
    ∙ (ap (λ (f : Fault FaultKind). Err (not_evaluated f)) c.in_ok-share_fault-in-Err.ensures
    ∙ sym (means_fault x c.args.m (module_views c.args.imports.now) s c.in-Err.fault there c.in-Err.is))

pub returns-in-Err-Bad : goal.returns-in-Err-Bad
returns-in-Err-Bad g c =
    let x = loading_of c.args.self.now in
    let s = c.in-Some.module.now in
    let why = c.in-Err-Bad.fault in
    let ms = module_views c.args.imports.now in
    let read = c.in-Some.ensures.lookup in
    let there : slice_get x.modules c.args.m ≡ Some s = slice_get_read x.modules (length x.modules) c.args.m s refl read.3.0 read.1 in
    let is : told module_view failed_view c.not_imported.result ≡ Err (not_evaluated (fault_as kind_of_load why)) = rw c.in-Err-Bad.field-0-is at c.not_imported.ensures in
    is ∙ sym (means_file x c.args.m ms s c.in-Ok.front there c.in-Ok.is (Err why) (c.in-Err-Bad.ensures why c.in-Err-Bad.field-0-is))

pub returns-in_ok-evaluated-in-Ok-imports : goal.returns-in_ok-evaluated-in-Ok-imports
returns-in_ok-evaluated-in-Ok-imports g c =
    let x = loading_of c.args.self.now in
    let s = c.in-Some.module.now in
    let front = c.in-Ok.front in
    let ms = module_views c.args.imports.now in
    let values = c.in-Ok-imports.values.items in
    let read = c.in-Some.ensures.lookup in
    let there : slice_get x.modules c.args.m ≡ Some s = slice_get_read x.modules (length x.modules) c.args.m s refl read.3.0 read.1 in
    let is : told module_view failed_view c.in_ok-evaluated-in-Ok-imports.field-0 ≡ module_after front.file values (evaluation x c.args.m s.label front.file ms values) =
    subst (λ (vs : List Datum). told module_view failed_view c.in_ok-evaluated-in-Ok-imports.field-0 ≡ module_after front.file vs (evaluation x c.args.m s.label front.file ms vs)) c.deref.ensures.value c.in_ok-evaluated-in-Ok-imports.ensures in
    is ∙ sym (means_file x c.args.m ms s front there c.in-Ok.is (Ok values) c.in-Ok-imports.ensures)
