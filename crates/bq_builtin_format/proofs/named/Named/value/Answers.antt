use Rattle.std.proofs.Common.{◌∙◌, sym, ap}
use Rattle.bq_builtin_format.specs.Argument.{named_value}
use Rattle.bq_builtin_format.proofs.Places.{at_place, past_places}
use Rattle.bq_builtin_format.proofs.named.Named.value.Goals as goal

pub returns-in_ok-get-in-Some : goal.returns-in_ok-get-in-Some
returns-in_ok-get-in-Some c =
    at_place c.self.inside.pairs.now c.self.inside.places c.args.name.now c.in-Some.place c.in_ok-get-in-Some.field-0.now c.self.invariant (sym c.in-Some.is ∙ c.place.ensures) (c.in_ok-get-in-Some.ensures.lookup.3)
    ∙ ap (named_value c.args.name.now) c.self.view_is

pub returns-in_ok-get-in-None : goal.returns-in_ok-get-in-None
returns-in_ok-get-in-None c =
    c.first_value.ensures
    ∙ (past_places c.self.inside.pairs.now c.self.inside.places c.args.name.now c.len.result c.in_ok-get-in-None.field-0.now c.self.invariant (sym c.in-None.is ∙ c.place.ensures) c.len.ensures (c.in_ok-get-in-None.ensures.lookup.0.2)
    ∙ ap (named_value c.args.name.now) c.self.view_is)
