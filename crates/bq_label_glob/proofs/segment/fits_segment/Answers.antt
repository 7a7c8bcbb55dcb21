use Rattle.std.proofs.Common.{◌∙◌, length, sym}
use Rattle.std.proofs.lemmas.List.{take_rest}
use Rattle.bq_label_glob.proofs.Pieces.{only_piece, first_fits, first_misfits, next_piece, piece_missing, last_piece}
use Rattle.bq_label_glob.proofs.segment.fits_segment.Goals as goal

pub returns-in_default : goal.returns-in_default
returns-in_default c = only_piece c.args.pattern.now c.args.text.now c.eq.result c.in_default.ensures c.eq.ensures

pub returns-then-not-starts_with : goal.returns-then-not-starts_with
returns-then-not-starts_with c =
    sym (first_misfits c.args.pattern.now c.in-Some.first.now c.in-Some.rest_of_pattern.now c.args.text.now c.in-Some.ensures (sym c.starts_with.ensures.value ∙ c.if-not-starts_with.true))

pub pieces-init : goal.pieces-init
pieces-init c =
    first_fits c.args.pattern.now c.in-Some.first.now c.in-Some.rest_of_pattern.now c.args.text.now _ c.in-Some.ensures (sym c.starts_with.ensures.value ∙ c.if-not-starts_with.false) (take_rest c.args.text.now (length c.in-Some.first.now))

pub returns-in_default-after_first : goal.returns-in_default-after_first
returns-in_default-after_first c =
    sym (c.pieces.invariant ∙ piece_missing c.pieces.pieces.now c.in-Some-cut_at_star.piece.now c.in-Some-cut_at_star.more.now c.pieces.rest.now c.in-Some-cut_at_star.ensures c.in_default-after_first.ensures)

pub pieces-preserved : goal.pieces-preserved
pieces-preserved c =
    c.pieces.invariant
    ∙ next_piece c.pieces.pieces.now c.in-Some-cut_at_star.piece.now c.in-Some-cut_at_star.more.now c.pieces.rest.now c.in-Some-after_first.after.now c.in-Some-cut_at_star.ensures c.in-Some-after_first.ensures

pub returns : goal.returns
returns c = c.ends_with.ensures.value ∙ sym (c.pieces.invariant ∙ last_piece c.pieces.pieces.now c.pieces.rest.now c.in_default-cut_at_star.ensures)
