use Rattle.std.proofs.Common.{◌≡◌, ◌∙◌, ap, sym, subst, List, ℕ, Some}
use Rattle.bq_label.specs.Label.{IsPackage, package_at}
use Rattle.bq_label.specs.Packages.{split_repository, directory_of}
use Rattle.bq_label.proofs.BuildFiles.{repository_package}
use Rattle.bq_label.proofs.packages.package_of_file.Goals as goal

pub from_parts-requires : goal.from_parts-requires
from_parts-requires c =
    let r : List ℕ = c.in-Some.found.repo.now in
    let t : List ℕ = c.in-Some.found.rest.now in
    let h : split_repository c.args.path.now ≡ Some (r, t) = ap split_repository (sym c.as_slice-2.ensures) ∙ c.in-Some.ensures in
    let valid : IsPackage (package_at r (directory_of t)) = repository_package c.args.path.now r t c.requires h in
    let repo : c.in_ok-repo.repo ≡ r = c.in_ok-repo.ensures in
    let path : c.in_ok-directory.directory ≡ directory_of t = c.in_ok-directory.ensures ∙ c.directory_of.ensures in
    subst (λ (p : List ℕ). IsPackage (package_at c.in_ok-repo.repo p)) (sym path) (subst (λ (q : List ℕ). IsPackage (package_at q (directory_of t))) (sym repo) valid)
