use Rattle.std.proofs.Common.{◌≡◌, ◌∙◌, ◌++◌, ◌∷◌, [], ℕ, List, None, Some, length, position, slice_get, sym, ap, arith}
use Rattle.bq_label.specs.Label.{LabelParts}
use Rattle.bq_label_set.specs.Labels.{same_label}
use Rattle.bq_label_set.proofs.Numbers.{labels_with_numbers}
use Rattle.bq_load_front.proofs.Places.{is_new, is_known, is_old, has_place, last_at}
use Rattle.bq_load_front.proofs.named_files.add_file.Goals as goal

pub returns-then-branch-clause-same : goal.returns-then-branch-clause-same
returns-then-branch-clause-same c =
    let numbers = c.args.numbers.now in
    let label = c.args.label.now in
    let new = is_new numbers c.add.new.self label c.in_ok-add.field-0 c.in_ok-add.ensures.added c.in_ok-add.ensures.after c.if-branch.true in
    c.in_ok-push.ensures.items
    ∙ (ap (λ (z : List LabelParts). z ++ c.in_ok-share.field-0 ∷ []) c.requires.same ∙ (ap (λ (z : LabelParts). numbers ++ z ∷ []) c.in_ok-share.ensures ∙ sym new))

pub returns-then-branch-clause-place : goal.returns-then-branch-clause-place
returns-then-branch-clause-place c =
    let files = c.args.files.now.items in
    let label = c.args.label.now in
    let place = c.len-place.result in
    let n : length files ≡ place = omega (arith, c.len-place.ensures, c.args.files.now.ok) in
    ap (λ (z : List LabelParts). slice_get z place) (c.in_ok-push.ensures.items ∙ ap (λ (z : LabelParts). files ++ z ∷ []) c.in_ok-share.ensures)
    ∙ (ap (λ (k : ℕ). slice_get (files ++ label ∷ []) k) (sym n) ∙ last_at files label)

pub unreachable-requires : goal.unreachable-requires
unreachable-requires c =
    let numbers = c.args.numbers.now in
    let label = c.args.label.now in
    let old = is_old numbers c.add.new.self label c.in_ok-add.field-0 c.in_ok-add.ensures.added c.in_ok-add.ensures.after c.if-branch.false in
    let known = is_known numbers c.add.new.self label c.in_ok-add.field-0 c.in_ok-add.ensures.added c.in_ok-add.ensures.after c.if-branch.false in
    let none : None ≡ position (same_label label) numbers = sym c.in-None.is ∙ (c.in_ok-place.ensures.number ∙ ap (position (same_label label)) old) in
    has_place numbers label c.requires.distinct known none

pub returns-clause-same : goal.returns-clause-same
returns-clause-same c =
    let old = is_old c.args.numbers.now c.add.new.self c.args.label.now c.in_ok-add.field-0 c.in_ok-add.ensures.added c.in_ok-add.ensures.after c.if-branch.false in
    c.requires.same ∙ sym old

pub returns-clause-place : goal.returns-clause-place
returns-clause-place c =
    let numbers = c.args.numbers.now in
    let label = c.args.label.now in
    let place = c.in-Some.place in
    let old = is_old numbers c.add.new.self label c.in_ok-add.field-0 c.in_ok-add.ensures.added c.in_ok-add.ensures.after c.if-branch.false in
    let at : position (same_label label) numbers ≡ Some place = sym (c.in_ok-place.ensures.number ∙ ap (position (same_label label)) old) ∙ c.in-Some.is in
    ap (λ (z : List LabelParts). slice_get z place) c.requires.same ∙ (labels_with_numbers numbers label place c.requires.distinct).0 at
