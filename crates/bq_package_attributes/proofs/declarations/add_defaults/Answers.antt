use Rattle.std.proofs.Common.{◌++◌}
use Rattle.bq_package_attributes.specs.Declarations.{defaults}
use Rattle.bq_package_attributes.proofs.ClassEntries.{defaults_next, defaults_end}
use Rattle.bq_package_attributes.proofs.declarations.add_defaults.Goals as goal

pub loop-place-preserved : goal.loop-place-preserved
loop-place-preserved c =
    let keywords = c.args.keywords.now in
    let class = c.args.class.now in
    defaults_next keywords class c.loop-place.place (c.in-Some.name.now, c.in-Some.attribute.now) c.loop-place.attributes _ (c.args.attributes.now ++ defaults keywords class) c.in-Some.ensures c.loop-place.invariant c.in_ok-add_default.ensures

pub returns-in_default : goal.returns-in_default
returns-in_default c =
    let keywords = c.args.keywords.now in
    let class = c.args.class.now in
    defaults_end keywords class c.loop-place.place c.loop-place.attributes (c.args.attributes.now ++ defaults keywords class) c.in_default.ensures c.loop-place.invariant
