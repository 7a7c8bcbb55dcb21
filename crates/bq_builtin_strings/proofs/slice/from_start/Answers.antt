use Rattle.std.proofs.Common.{◌∙◌, arith, FitsSigned, w64}
use Rattle.std.proofs.lemmas.Int.{ints, to_z-of_z}
use Rattle.bq_builtin_strings.proofs.Bounds.{from_end, from_begin}
use Rattle.bq_builtin_strings.proofs.slice.from_start.Goals as goal

pub returns-then-index-lt0 : goal.returns-then-index-lt0
returns-then-index-lt0 c = from_end c.args.len c.args.index _ (omega (arith, ints)) (omega (arith, ints))

pub returns : goal.returns
returns c =
    let f : FitsSigned w64 c.args.index = c.ranges.index in
    to_z-of_z w64 c.args.index f ∙ from_begin c.args.len c.args.index (omega (arith, ints))
