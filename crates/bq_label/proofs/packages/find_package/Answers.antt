use Rattle.std.proofs.Common.{◌≡◌, ◌∙◌, ap, sym, Some, rules, get_or}
use Rattle.std.specs.declared.cmp.Ordering.{Ordering}
use Rattle.std.specs.declared.cmp.Ordering.TheVariants.{Equal}
use Rattle.std.proofs.lemmas.Fn.{always_returns_same}
use Rattle.bq_label.specs.Label.{package_at}
use Rattle.bq_label.specs.Packages.{id_cmp}
use Rattle.bq_label.specs.declared.packages.BuildFile.{BuildFile}
use Rattle.bq_label.proofs.BuildFiles.{package_here, package_nowhere}
use Rattle.bq_label.proofs.packages.find_package.Goals as goal

pub returns-in-Ok : goal.returns-in-Ok
returns-in-Ok c =
    let against : BuildFile → Ordering = λ b. id_cmp b.id (package_at c.args.repo.now c.args.path.now) in
    let found : (d : BuildFile) → id_cmp ((get_or c.args.packages.now c.in-Ok.at d).id) (package_at c.args.repo.now c.args.path.now) ≡ Equal = c.in-Ok.ensures.position against (always_returns_same _ _ _ (λ a r q k. search rules)) in
    ap Some c.index-packages-at.is
    ∙ sym (package_here c.args.packages.now c.args.repo.now c.args.path.now c.requires c.in-Ok.at c.index-packages-at.result c.in-Ok.ensures.bound (found c.index-packages-at.result))

pub returns-in-Err : goal.returns-in-Err
returns-in-Err c =
    let against : BuildFile → Ordering = λ b. id_cmp b.id (package_at c.args.repo.now c.args.path.now) in
    sym (package_nowhere c.args.packages.now c.args.repo.now c.args.path.now c.requires _ (c.in-Err.ensures.position against (always_returns_same _ _ _ (λ a r q k. search rules))))
