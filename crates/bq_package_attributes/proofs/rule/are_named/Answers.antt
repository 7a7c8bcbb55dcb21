use Rattle.std.proofs.Common.{sym, ap, ◌∙◌, ℕ, List}
use Rattle.bq_value_datum.specs.declared.attribute.Attribute.{Attribute}
use Rattle.bq_package_attributes.specs.Rule.{may_be_named, are_named}
use Rattle.bq_package_attributes.proofs.Places.{one_fails, one_passes}
use Rattle.bq_package_attributes.proofs.rule.are_named.Goals as goal

pub returns-then-not-may_be_named : goal.returns-then-not-may_be_named
unfolding are_named
returns-then-not-may_be_named c =
    let e : List ℕ × Attribute = (c.in-Some.name.now, c.in-Some.field-0-1.now) in
    sym (one_fails (λ d. may_be_named d.0) c.args.class.now c.loop-place.place e c.loop-place.invariant (sym c.in-Some.ensures) (sym (c.may_be_named.ensures ∙ ap may_be_named c.as_slice.ensures) ∙ c.if-not-may_be_named.true))

pub loop-place-preserved : goal.loop-place-preserved
loop-place-preserved c =
    let e : List ℕ × Attribute = (c.in-Some.name.now, c.in-Some.field-0-1.now) in
    one_passes (λ d. may_be_named d.0) c.args.class.now c.loop-place.place e c.loop-place.invariant (sym c.in-Some.ensures) (sym (c.may_be_named.ensures ∙ ap may_be_named c.as_slice.ensures) ∙ c.if-not-may_be_named.false)
