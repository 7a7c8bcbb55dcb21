use Rattle.std.proofs.Common.{◌∙◌, ◌||◌, Bool, not, sym, ap}
use Rattle.bq_package_attributes.specs.Declarations.{gives, gives_mandatory}
use Rattle.bq_package_attributes.proofs.ClassEntries.{met_next, met_stops}
use Rattle.bq_package_attributes.proofs.declarations.gives_mandatory.Goals as goal

pub loop-place-preserved-then-not-attribute : goal.loop-place-preserved-then-not-attribute
loop-place-preserved-then-not-attribute c =
    let l = c.loop-place in
    let keywords = c.args.keywords.now in
    let name = c.in-Some.name.now in
    let met = ap (λ (b : Bool). not b || gives keywords name) c.if-not-attribute.true in
    l.invariant ∙ met_next keywords c.args.class.now l.place (name, c.in-Some.attribute.now) c.in-Some.ensures met

pub returns-then-not-branch : goal.returns-then-not-branch
unfolding gives_mandatory
returns-then-not-branch c =
    let l = c.loop-place in
    let keywords = c.args.keywords.now in
    let name = c.in-Some.name.now in
    let lacks = ap (λ (b : Bool). not b || gives keywords name) c.if-not-attribute.false ∙ (sym c.in_ok-gives.ensures ∙ c.if-not-branch.true) in
    sym (l.invariant ∙ met_stops keywords c.args.class.now l.place (name, c.in-Some.attribute.now) c.in-Some.ensures lacks)

pub loop-place-preserved : goal.loop-place-preserved
loop-place-preserved c =
    let l = c.loop-place in
    let keywords = c.args.keywords.now in
    let name = c.in-Some.name.now in
    let met = ap (λ (b : Bool). not b || gives keywords name) c.if-not-attribute.false ∙ (sym c.in_ok-gives.ensures ∙ c.if-not-branch.false) in
    l.invariant ∙ met_next keywords c.args.class.now l.place (name, c.in-Some.attribute.now) c.in-Some.ensures met
