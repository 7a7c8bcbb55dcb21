use Rattle.std.proofs.Common.{◌+◌, length, get_or, ap, ◌∙◌}
use Rattle.bq_board_plan.proofs.Deep.{get_or-zeros}
use Rattle.bq_board.proofs.Keeps.{starts}
use Rattle.bq_board.proofs.opening.free_table.Goals as goal

pub vacant-requires : goal.vacant-requires
vacant-requires g c = let p = c.args.plan.now in let made = c.in_ok-words.ensures in let same = c.as_slice.ensures.value in
    rw (c.of.ensures, c.of-2.ensures, c.of-3.ensures) (starts g.row.V-Base.Denot g.row.V.Denot g.V.Parcel.belongs c.args.base.now p c.args.seats c.as_slice.result.now c.edges-edges.result c.edges-edges.ensures.valid.0
    (c.as_slice.ensures.len ∙ made.len ∙ ap (λ n. 1 + n + c.edges-edges.result) c.modules.ensures.count ∙ ap (λ n. 1 + length p + n) c.edges-edges.ensures.count) c.edges-edges.ensures.count (λ j. ap (λ l. get_or l j 0) (same ∙ made.items_if_clones_equal (λ y e. e)) ∙ get_or-zeros _ j) c.requires)
