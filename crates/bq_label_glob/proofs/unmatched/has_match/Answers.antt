use Rattle.std.proofs.Common.{◌≡◌, ◌∙◌, ℕ, List, true, sym, ap}
use Rattle.std.specs.List.{list_any}
use Rattle.std.specs.Option.{is_some}
use Rattle.std.specs.Str.{bytes_eq}
use Rattle.bq_base_texts.proofs.NameLookups.{has_place}
use Rattle.bq_label_glob.specs.Unmatched.{is_plain}
use Rattle.bq_label_glob.proofs.Sets.{plain_among}
use Rattle.bq_label_glob.proofs.unmatched.has_match.Goals as goal

pub returns-then-is_plain : goal.returns-then-is_plain
returns-then-is_plain c =
    let pattern = c.args.pattern.now in
    let names = c.args.names.now in
    let set = c.args.set.now in
    let text = c.as_slice.result.now in
    let is : text ≡ pattern = c.as_slice.ensures ∙ c.text.ensures in
    let plain : is_plain pattern ≡ true = sym c.is_plain.ensures ∙ c.if-is_plain.true in
    c.is_some.ensures
    ∙ (ap is_some c.place.ensures
    ∙ (has_place set text
    ∙ (ap (λ (t : List ℕ). list_any (bytes_eq t) set) is
    ∙ (c.requires plain (bytes_eq pattern)
    ∙ plain_among pattern names plain))))
