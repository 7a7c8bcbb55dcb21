use Rattle.std.proofs.Common.{FitsSigned, w64, arith}
use Rattle.std.proofs.lemmas.Int.{ints, to_z-of_z}
use Rattle.bq_builtin_operators.proofs.Sequences.{slice_within}
use Rattle.bq_builtin_operators.proofs.sequence.slice_values.Goals as goal

pub take_values-requires : goal.take_values-requires
take_values-requires c =
    let f : FitsSigned w64 c.args.step = c.ranges.step in
    slice_within c.args.values.now c.args.start c.args.stop c.args.step c.slice_places.result.start c.slice_places.result.stop c.slice_places.result.step
    (λ e. omega (arith, ints, c.requires e))
    (rw (to_z-of_z w64 c.args.step f) at c.slice_places.ensures.start) (rw (to_z-of_z w64 c.args.step f) at c.slice_places.ensures.stop) (rw (to_z-of_z w64 c.args.step f) at c.slice_places.ensures.step)
