use Rattle.std.proofs.Common.{◌≡◌, ◌∙◌, true, sym, ap, arith, rules, tests}
use Rattle.std.proofs.lemmas.Grind.{common_steps}
use Rattle.std.specs.Prelude.{bytes_eq}
use Rattle.bq_package_target.specs.Target.{is_of}
use Rattle.bq_package_values.proofs.Crossings.{same_parts}
use Rattle.bq_package_values.proofs.scope.is_same.Goals as goal

pub returns-then-eq : goal.returns-then-eq
returns-then-eq c =
    let a = c.args.a.now in
    let b = c.args.b.now in
    let named : bytes_eq a.name b.name ≡ true = first_of (search (rules, tests), grind (arith, common_steps)) in
    let told : c.is_of.result ≡ is_of _ b = c.is_of.ensures ∙ ap (λ p. is_of p b) c.package_id.ensures in
    let same = same_parts a b named in
    (λ t. same.0 (sym told ∙ t), λ e. told ∙ same.1 e)
