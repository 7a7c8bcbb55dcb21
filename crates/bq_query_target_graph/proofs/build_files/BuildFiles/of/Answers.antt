use Rattle.std.proofs.Common.{◌≡◌, ◌∙◌, ◌++◌, List, ap, append-nil, subst, sym}
use Rattle.std.proofs.lemmas.List.{drop_all}
use Rattle.bq_label.specs.Label.{LabelParts}
use Rattle.bq_package_target.specs.Package.{PackageTargets}
use Rattle.bq_query_target_graph.specs.BuildFiles.{build_files, FilesAscend}
use Rattle.bq_query_target_graph.proofs.Files.{files_ascend}
use Rattle.bq_query_target_graph.proofs.build_files.BuildFiles.of.Goals as goal

pub invariant_of-result : goal.invariant_of-result
invariant_of-result c =
    let l = c.loop-package in
    let ps = c.args.packages.now in
    let none : build_files ps ≡ l.files = sym l.invariant ∙ (ap (λ (z : List PackageTargets). l.files ++ build_files z) (drop_all l.package-index ps c.loop-package-test.false) ∙ append-nil l.files) in
    subst (λ (z : List LabelParts). FilesAscend z) none (files_ascend ps c.requires)
