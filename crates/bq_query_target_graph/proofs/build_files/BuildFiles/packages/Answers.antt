use Rattle.std.proofs.Common.{◌≡◌, ◌∙◌, ◌++◌, List, map, ap, append-nil, subst, sym}
use Rattle.std.specs.List.Sorted.{IsStrictlySortedBy}
use Rattle.std.proofs.lemmas.List.{drop_all}
use Rattle.bq_label.specs.Label.{LabelParts, PackageParts, package_of}
use Rattle.bq_label.specs.Packages.{id_cmp}
use Rattle.bq_query_target_graph.specs.BuildFiles.{FilesAscend}
use Rattle.bq_query_target_graph.proofs.Files.{packages_ascend}
use Rattle.bq_query_target_graph.proofs.build_files.BuildFiles.packages.Goals as goal

pub returns-clause-ascending : goal.returns-clause-ascending
returns-clause-ascending c =
    let l = c.loop-file in
    let files = c.as_slice-files.result.now in
    let ascend : FilesAscend files = subst (λ (z : List LabelParts). FilesAscend z) (sym c.as_slice-files.ensures) c.self.invariant in
    let all : map package_of files ≡ l.ids = sym l.invariant ∙ (ap (λ (z : List LabelParts). l.ids ++ map package_of z) (drop_all l.file-index files c.loop-file-test.false) ∙ append-nil l.ids) in
    subst (λ (z : List PackageParts). IsStrictlySortedBy id_cmp z) all (packages_ascend files ascend)
