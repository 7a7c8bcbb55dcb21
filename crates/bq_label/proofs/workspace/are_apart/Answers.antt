use Rattle.std.proofs.Common.{◌≡◌, ◌∙◌, ap, sym, arith, List, ℕ, true}
use Rattle.bq_label.specs.Workspace.{parts_at_file}
use Rattle.bq_label.proofs.Neighbours.{apart, not_apart}
use Rattle.bq_label.proofs.workspace.are_apart.Goals as goal

pub returns-then-parts_at_file : goal.returns-then-parts_at_file
returns-then-parts_at_file c =
    let before : List ℕ = c.as_slice.result.now in
    let found : parts_at_file c.args.files.now before c.as_slice-in-loop-at.result.now ≡ true = sym c.parts_at_file.ensures ∙ c.if-parts_at_file.true in
    sym (not_apart c.args.files.now before c.loop-at.at c.index-files-at-in-loop-at.result (omega arith)
    (ap (λ (t : List ℕ). parts_at_file c.args.files.now before t) (sym c.as_slice-in-loop-at.ensures) ∙ found))

pub returns : goal.returns
returns c = sym (apart c.args.files.now c.requires (λ k d l. c.loop-at.invariant k d (omega arith)))
