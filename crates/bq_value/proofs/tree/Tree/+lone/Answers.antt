use Rattle.std.proofs.Common.{◌≡◌, ◌+◌, ◌-◌, ◌^◌, ◌<◌, arith}
use Rattle.bq_value.proofs.Tries.{twice_less}
use Rattle.bq_value.proofs.tree.Tree.+lone.Goals as goal

pub lone-requires-2 : goal.lone-requires-2
lone-requires-2 t c =
    let h = c.args.height in
    let above : 0 < h = omega (arith, c.if-height-eq0.false) in
    let double : 2 ^ h ≡ 2 ^ (h - 1) + 2 ^ (h - 1) = twice_less h above in
    let middle = c.middle-middle.ensures in (
      omega (arith, above, c.decreases),
      (
        omega (arith, double, middle, c.requires.fits),
        (omega (arith, middle, c.if-home-middle.false), omega (arith, double, middle, c.requires.to)),
      ),
    )
