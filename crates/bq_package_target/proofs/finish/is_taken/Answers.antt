use Rattle.std.proofs.Common.{◌∙◌, ap, sym, Some, position, not}
use Rattle.std.specs.Str.{bytes_eq}
use Rattle.bq_package_target.proofs.States.{taken_none, taken_some}
use Rattle.bq_package_target.proofs.finish.is_taken.Goals as goal

pub returns-in-None : goal.returns-in-None
returns-in-None c =
    let names = c.args.names.now in
    sym (taken_none c.args.targets.now names c.args.label.now c.requires (ap (λ n. position (bytes_eq n) names) (sym c.name.ensures.value) ∙ (sym c.in_ok-place.ensures ∙ c.in-None.is)))

pub returns-in-Some-at : goal.returns-in-Some-at
returns-in-Some-at c =
    let names = c.args.names.now in
    let found = taken_some c.args.targets.now names c.args.label.now c.in-Some.place (Some c.in-Some-at.target.now) c.requires
    (ap (λ n. position (bytes_eq n) names) (sym c.name.ensures.value) ∙ (sym c.in_ok-place.ensures ∙ c.in-Some.is)) (sym c.in-Some-at.ensures) in
    ap (λ b. not b) c.is_source.ensures ∙ sym found
