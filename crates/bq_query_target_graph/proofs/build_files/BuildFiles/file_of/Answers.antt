use Rattle.std.proofs.Common.{◌≡◌, ◌∙◌, ap, sym, rules, get_or}
use Rattle.std.specs.declared.cmp.Ordering.{Ordering}
use Rattle.std.specs.declared.cmp.Ordering.TheVariants.{Equal}
use Rattle.std.proofs.lemmas.Fn.{always_returns_same}
use Rattle.bq_label.specs.Label.{LabelParts, package_of}
use Rattle.bq_label.specs.Packages.{id_cmp}
use Rattle.bq_query_target_graph.specs.BuildFiles.{file_of}
use Rattle.bq_query_target_graph.proofs.Files.{file_here, file_nowhere}
use Rattle.bq_query_target_graph.proofs.build_files.BuildFiles.file_of.Goals as goal

pub returns-in-Ok : goal.returns-in-Ok
returns-in-Ok c =
    let files = c.self.inside.files in
    let l = c.args.label.now in
    let against : LabelParts → Ordering = λ b. id_cmp (package_of b) (package_of l) in
    let found : (d : LabelParts) → id_cmp (package_of (get_or c.as_slice-files.result.now c.in-Ok.at d)) (package_of l) ≡ Equal = c.in-Ok.ensures.position against (always_returns_same _ _ _ (λ a r q k. search rules)) in
    c.index-files-at.is ∙ (sym (file_here c.as_slice-files.result.now (search rules) l c.in-Ok.at c.index-files-at.result c.in-Ok.ensures.bound (found c.index-files-at.result)) ∙ ap (λ z. file_of z l) (search rules))

pub returns-in-Err : goal.returns-in-Err
returns-in-Err c =
    let l = c.args.label.now in
    let against : LabelParts → Ordering = λ b. id_cmp (package_of b) (package_of l) in
    sym (file_nowhere c.as_slice-files.result.now (search rules) l _ (c.in-Err.ensures.position against (always_returns_same _ _ _ (λ a r q k. search rules)))) ∙ ap (λ z. file_of z l) (search rules)
