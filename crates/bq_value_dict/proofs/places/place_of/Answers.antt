use Rattle.std.proofs.Common.{◌≡◌, ◌+◌, ◌<◌, ◌≤◌, ℕ, sym, subst, arith, length, get_or}
use Rattle.bq_value_dict.proofs.Empty.{passed_at}
use Rattle.bq_value_dict.proofs.places.place_of.Goals as goal

pub returns : goal.returns
returns c =
    let index = c.args.index in
    let empty = c.args.empty.now in
    let low = c.loop-low.low in
    let same_end : low ≡ c.loop-low.high = omega (arith, c.loop-low.invariant.order, c.loop-low-test.false) in
    let within : low ≤ length empty = omega (arith, same_end, c.loop-low.invariant.within) in
    let P : ℕ → Type 0 = λ n. n < length empty → index + n < get_or empty n 0 in
    sym (passed_at 0 index empty low c.requires.rises within c.loop-low.invariant.before (subst P (sym same_end) c.loop-low.invariant.after))
