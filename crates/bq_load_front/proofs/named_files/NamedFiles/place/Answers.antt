use Rattle.std.proofs.Common.{◌≡◌, ◌∙◌, ℕ, List, ap, slice_get}
use Rattle.bq_label.specs.Label.{LabelParts}
use Rattle.bq_load_front.specs.NamedFiles.{place_named}
use Rattle.bq_load_front.proofs.Places.{copied_at, place_kept}
use Rattle.bq_load_front.proofs.named_files.NamedFiles.place.Goals as goal

pub returns : goal.returns
returns c =
    let fs = c.self.inside.files.items in
    let ps = c.self.inside.places.items in
    let at : c.copied.result ≡ slice_get c.deref.result.now c.args.load = c.copied.ensures ∙ copied_at c.deref.result.now c.get.result c.args.load (c.get.ensures.lookup.3) in
    at
    ∙ (ap (λ (z : List ℕ). slice_get z c.args.load) c.deref.ensures.value ∙ (place_kept fs ps c.self.invariant c.args.load ∙ ap (λ (z : List LabelParts). place_named z c.args.load) c.self.view_is))
