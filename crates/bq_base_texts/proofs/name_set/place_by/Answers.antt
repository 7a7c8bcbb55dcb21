use Rattle.std.proofs.Common.{◌≡◌, sym, arith}
use Rattle.std.proofs.lemmas.Grind.{common_steps}
use Rattle.bq_base_texts.specs.Places.{colliding_place}
use Rattle.bq_base_texts.proofs.NameLookups.{at_place, late_place}
use Rattle.bq_base_texts.proofs.name_set.place_by.Goals as goal

pub returns : goal.returns
returns c =
    let late : c.copied-late.result ≡ colliding_place c.args.places.now.colliding c.args.name.now = grind (arith, common_steps) in
    late_place c.args.names.now c.args.name.now c.args.first (colliding_place c.args.places.now.colliding c.args.name.now) c.checked-2.result c.requires c.in_default.ensures.nowhere (rw (sym late) c.checked-2.ensures.there) (rw (sym late) c.checked-2.ensures.nowhere)

pub returns-in-Some : goal.returns-in-Some
returns-in-Some c =
    sym (at_place c.args.names.now c.args.name.now c.args.first (colliding_place c.args.places.now.colliding c.args.name.now) c.in-Some.place c.requires c.in-Some.ensures.there.1)
