use Rattle.std.proofs.Common.{◌≡◌, ◌∙◌, ℕ, List, [], ◌∷◌, ◌++◌, take, Option, IfSome, Bor, sym, ap, subst, arith}
use Rattle.std.proofs.lemmas.List.{take_all}
use Rattle.bq_label.specs.declared.workspace.File.{File}
use Rattle.bq_label.specs.Workspace.{paths_of}
use Rattle.bq_load_changes.specs.Paths.{Follows}
use Rattle.bq_load_changes.proofs.Noted.{follows_all, passed_more, paths_take}
use Rattle.bq_load_changes.proofs.paths.touched.Goals as goal

pub loop-file-preserved : goal.loop-file-preserved
loop-file-preserved c =
    let path = c.as_slice.result.now in
    let goes : Follows c.args.packages.now c.loop-file.touched.items c.go_past.new.touched.items (path ∷ []) c.loop-file.left.now c.in-Some.rest.now =
    subst (λ (o : Option (Bor (List File))). IfSome o (λ rest. Follows c.args.packages.now c.loop-file.touched.items c.go_past.new.touched.items (path ∷ []) c.loop-file.left.now rest.now)) c.in-Some.is c.in_ok-rest.ensures in
    passed_more c.args.packages.now [] c.loop-file.touched.items c.go_past.new.touched.items _ _ path c.args.others.now c.loop-file.left.now c.in-Some.rest.now
    (paths_take c.args.files.now c.loop-file.file-index c.file-item.result c.loop-file-test.true c.file-item.is
    ∙ ap (λ (p : List ℕ). paths_of (take c.loop-file.file-index c.args.files.now) ++ p ∷ []) (sym c.as_slice.ensures))
    c.loop-file.invariant goes

pub returns : goal.returns
returns c =
    let all : take c.loop-file.file-index c.args.files.now ≡ c.args.files.now = take_all c.loop-file.file-index c.args.files.now (omega arith) in
    let goes : Follows c.args.packages.now [] c.loop-file.touched.items (paths_of c.args.files.now) c.args.others.now c.loop-file.left.now =
    subst (λ (fs : List File). Follows c.args.packages.now [] c.loop-file.touched.items (paths_of fs) c.args.others.now c.loop-file.left.now) all c.loop-file.invariant in
    follows_all c.args.packages.now [] c.loop-file.touched.items c.note_all.new.touched.items (paths_of c.args.files.now) c.args.others.now c.loop-file.left.now goes (c.in_ok-note_all.ensures c.if-not-branch.false)
