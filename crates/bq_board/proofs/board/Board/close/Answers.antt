use Rattle.std.proofs.Common.{◌≡◌, ℕ, ◌+◌, ◌<◌, List, Bool, false, get_or, set, sym, ap, ◌∙◌, arith, get_or-set_same, get_or-set_other, length}
use mathlib.Core.Logic.{dite}
use native.Mathlib.Decide.{ℕ_discrete}
use Rattle.std.specs.Mem.Slots.{slots_filled, slots_counts}
use Rattle.bq_board.proofs.board.Board.close.Goals as goal

taken_more : (old new : List Bool) (i : ℕ) → i < length old → new ≡ set old i false → ((k : ℕ) → k < i → get_or old k false ≡ false) → (k : ℕ) → k < i + 1 → get_or new k false ≡ false
taken_more old new i h is before k lt = ap (λ l. get_or l k false) is ∙ dite (ℕ_discrete k i)
    (λ e. ap (λ j. get_or (set old i false) j false) e ∙ get_or-set_same old i false false h)
    (λ ne. get_or-set_other old i k false false ne ∙ before k (omega arith))

pub loop-i-preserved : goal.loop-i-preserved
loop-i-preserved g c =
    let i = c.loop-i.invariant in let t = c.take.ensures.others in let old = c.loop-i.closed.slots in record {
      wide = i.wide ∙ sym t.2;
      full = λ k low high. ap (λ l. get_or l k false) t.1 ∙ get_or-set_other (slots_filled old) c.loop-i.i k false false (λ e. absurd (omega arith)) ∙ i.full k (omega arith) (omega (arith, t.2));
      taken = taken_more (slots_filled old) _ c.loop-i.i (omega (arith, (slots_counts old).1, i.wide)) t.1 i.taken;
    }
