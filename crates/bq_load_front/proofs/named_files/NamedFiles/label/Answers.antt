use Rattle.std.proofs.Common.{◌≡◌, ◌∙◌, ℕ, List, ap, slice_get}
use Rattle.std.specs.Prelude.{option_and_then}
use Rattle.bq_label.specs.Label.{LabelParts}
use Rattle.bq_load_front.proofs.Places.{copied_at, label_kept}
use Rattle.bq_load_front.proofs.named_files.NamedFiles.label.Goals as goal

pub returns : goal.returns
returns c =
    let fs = c.self.inside.files.items in
    let ps = c.self.inside.places.items in
    let at : c.copied.result ≡ slice_get c.deref-2.result.now c.args.load = c.copied.ensures ∙ copied_at c.deref-2.result.now c.get.result c.args.load (c.get.ensures.lookup.3) in
    c.file_at.ensures
    ∙ (ap (λ (z : List LabelParts). option_and_then (slice_get z) c.copied.result) c.deref.ensures.value
    ∙ (ap (option_and_then (slice_get fs)) (at ∙ ap (λ (z : List ℕ). slice_get z c.args.load) c.deref-2.ensures.value)
    ∙ (label_kept fs ps c.self.invariant c.args.load ∙ ap (λ (z : List LabelParts). slice_get z c.args.load) c.self.view_is)))
