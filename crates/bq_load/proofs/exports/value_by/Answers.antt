use Rattle.std.proofs.Common.{◌∙◌, ap, slice_get}
use Rattle.std.specs.Prelude.{option_and_then}
use Rattle.bq_load.proofs.ByName.{value_at_place}
use Rattle.bq_load.proofs.exports.value_by.Goals as goal

pub returns : goal.returns
returns c =
    c.value_at.ensures
    ∙ (ap (option_and_then (slice_get c.args.values.now)) c.place_of.ensures
    ∙ value_at_place c.args.name.now c.args.names.now c.args.values.now c.in-Some.places.now (c.requires c.in-Some.places c.in-Some.is))
