use Rattle.std.proofs.Common.{◌∙◌, ℕ, List, [], ◌∷◌, ◌++◌, take, sym, ap}
use Rattle.bq_label.specs.Workspace.{paths_of}
use Rattle.bq_load_changes.proofs.Noted.{noted_more, paths_take}
use Rattle.bq_load_changes.proofs.paths.note_all.Goals as goal

pub loop-file-preserved : goal.loop-file-preserved
loop-file-preserved c =
    noted_more c.args.packages.now c.args.touched.now.items c.loop-file.touched.items c.note.new.touched.items _ _ c.as_slice.result.now
    (paths_take c.args.files.now c.loop-file.file-index c.file-item.result c.loop-file-test.true c.file-item.is
    ∙ ap (λ (path : List ℕ). paths_of (take c.loop-file.file-index c.args.files.now) ++ path ∷ []) (sym c.as_slice.ensures))
    c.loop-file.invariant (c.in_ok-note.ensures c.if-not-branch.false)
