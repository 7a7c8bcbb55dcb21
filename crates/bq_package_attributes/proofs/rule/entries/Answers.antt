use Rattle.std.proofs.Common.{◌≡◌, ◌∙◌, sym, ap, subst, Ok, Some, None}
use Rattle.bq_value_datum.specs.Class.{extended}
use Rattle.bq_value.specs.Datum.{Datum}
use Rattle.bq_package_attributes.specs.Rule.{entry}
use Rattle.bq_package_attributes.proofs.Building.{Left, first, more_is, none_missing}
use Rattle.bq_package_attributes.proofs.rule.entries.Goals as goal

pub loop-i-init : goal.loop-i-init
loop-i-init c = subst (Left c.args.dict.now 0) (sym c.new-attributes.ensures) (first c.args.dict.now c.requires)

pub returns-in-None : goal.returns-in-None
returns-in-None c =
    let w = c.pair.result.1.now in
    let p : Datum × Datum = (c.pair.result.0.now, w) in
    let x = c.loop-i.attributes in
    let n = c.in_ok-name.name in
    let a = c.in_ok-name.attribute in
    let is : entry p ≡ Ok (n, a) = ap (λ k. entry (k, w)) (sym c.value.ensures.same) ∙ c.in_ok-name.ensures in
    let none : None ≡ extended x n a = sym c.in-None.is ∙ (c.in_ok-more.ensures ∙ ap (λ m. extended x m a) c.as_slice.ensures) in
    absurd (none_missing c.args.dict.now c.loop-i.i x p n a c.pair.ensures is c.loop-i.invariant none)

pub loop-i-preserved : goal.loop-i-preserved
loop-i-preserved c =
    let w = c.pair.result.1.now in
    let p : Datum × Datum = (c.pair.result.0.now, w) in
    let x = c.loop-i.attributes in
    let n = c.in_ok-name.name in
    let a = c.in_ok-name.attribute in
    let is : entry p ≡ Ok (n, a) = ap (λ k. entry (k, w)) (sym c.value.ensures.same) ∙ c.in_ok-name.ensures in
    let grown : Some c.in-Some.more ≡ extended x n a = sym c.in-Some.is ∙ (c.in_ok-more.ensures ∙ ap (λ m. extended x m a) c.as_slice.ensures) in
    more_is c.args.dict.now c.loop-i.i x p n a c.pair.ensures is c.loop-i.invariant c.in-Some.more grown
