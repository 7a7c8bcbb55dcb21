use Rattle.std.proofs.Common.{◌≡◌, length}
use Rattle.bq_label_glob.specs.Matching.{any_tail, fits_segment}
use Rattle.bq_label_glob.proofs.segment.fits_segment.Given as goal

-- what the pieces that are left say of the rest of the text is what the pattern says of the text
abbrev pub invariant-pieces : goal.invariant-pieces
invariant-pieces l = fits_segment l.fn.pattern l.fn.text ≡ any_tail (fits_segment l.pieces) l.rest

abbrev pub decreases-pieces : goal.decreases-pieces
decreases-pieces l = length l.pieces
