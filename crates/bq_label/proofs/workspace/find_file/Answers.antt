use Rattle.std.proofs.Common.{◌≡◌, ◌∙◌, ap, sym, Some, rules, get_or}
use Rattle.std.specs.declared.cmp.Ordering.{Ordering}
use Rattle.std.specs.declared.cmp.Ordering.TheVariants.{Equal}
use Rattle.std.specs.Ordering.{nat_cmp}
use Rattle.std.specs.Cmp.Lexicographic.{slice_cmp}
use Rattle.std.proofs.lemmas.Fn.{always_returns_same}
use Rattle.bq_label.specs.declared.workspace.File.{File}
use Rattle.bq_label.proofs.Workspaces.{file_here, file_nowhere}
use Rattle.bq_label.proofs.workspace.find_file.Goals as goal

pub returns-in-Ok : goal.returns-in-Ok
returns-in-Ok c =
    let against : File → Ordering = λ f. slice_cmp nat_cmp f.path c.args.path.now in
    let found : (d : File) → slice_cmp nat_cmp ((get_or c.args.files.now c.in-Ok.at d).path) c.args.path.now ≡ Equal = c.in-Ok.ensures.position against (always_returns_same _ _ _ (λ a r q k. search rules)) in
    ap Some c.index-files-at.is ∙ sym (file_here c.args.files.now c.args.path.now c.requires c.in-Ok.at c.index-files-at.result c.in-Ok.ensures.bound (found c.index-files-at.result))

pub returns-in-Err : goal.returns-in-Err
returns-in-Err c =
    let against : File → Ordering = λ f. slice_cmp nat_cmp f.path c.args.path.now in
    sym (file_nowhere c.args.files.now c.args.path.now c.requires _ (c.in-Err.ensures.position against (always_returns_same _ _ _ (λ a r q k. search rules))))
