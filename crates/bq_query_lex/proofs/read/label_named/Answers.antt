use Rattle.std.proofs.Common.{◌≡◌, Option, Some, None, Err, refl, subst}
use Rattle.bq_base.specs.declared.fault.EvalFault.{EvalFault}
use Rattle.bq_base.specs.declared.fault.Fault.{Fault}
use Rattle.bq_label.specs.Label.{LabelParts, PackageParts}
use Rattle.bq_label.specs.Reading.{label_of, or_bad_label}
use Rattle.bq_query_lex.proofs.read.label_named.Goals as goal

refused : (o : Option LabelParts) (f : Fault EvalFault) → or_bad_label o ≡ Err f → o ≡ None
refused None f e = refl
refused (Some l) f e = absurd (cc e)

pub returns-in-Err-Bad : goal.returns-in-Err-Bad
returns-in-Err-Bad c other =
    let w = c.args.word.now in
    let e = c.in-Err-Bad in
    let told = e.ensures e.field-0-0 e.field-0-is in
    (refused _ e.field-0-0 (subst (λ (p : PackageParts). or_bad_label (label_of p w) ≡ Err e.field-0-0) c.in_ok-root.ensures told), refl)
