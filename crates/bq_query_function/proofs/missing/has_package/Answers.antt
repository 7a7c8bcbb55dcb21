use Rattle.std.proofs.Common.{◌≡◌, rules, get_or, []}
use Rattle.std.specs.declared.cmp.Ordering.{Ordering}
use Rattle.std.specs.declared.cmp.Ordering.TheVariants.{Equal}
use Rattle.std.proofs.lemmas.Fn.{always_returns_same}
use Rattle.bq_label.specs.Label.{PackageParts, package_at}
use Rattle.bq_label.specs.Packages.{id_cmp}
use Rattle.bq_query_function.proofs.Found.{package_found, package_nowhere}
use Rattle.bq_query_function.proofs.missing.has_package.Goals as goal

pub returns-in-Ok : goal.returns-in-Ok
returns-in-Ok c =
    let against : PackageParts → Ordering = λ q. id_cmp q c.args.id.now in
    let found : (d : PackageParts) → id_cmp (get_or c.args.packages.now c.in-Ok.field-0 d) c.args.id.now ≡ Equal = c.in-Ok.ensures.position against (always_returns_same _ _ _ (λ a r q k. search rules)) in
    let d : PackageParts = package_at [] [] in
    package_found c.args.packages.now c.args.id.now c.requires c.in-Ok.field-0 d c.in-Ok.ensures.bound (found d)

pub returns-in-Err : goal.returns-in-Err
returns-in-Err c =
    let against : PackageParts → Ordering = λ q. id_cmp q c.args.id.now in
    package_nowhere c.args.packages.now c.args.id.now c.requires _ (c.in-Err.ensures.position against (always_returns_same _ _ _ (λ a r q k. search rules)))
