-- two calls for each level; what is left to write has the answer
use Rattle.std.proofs.Common.{◌≡◌, ◌+◌, ◌*◌, [], drop}
use Rattle.std.specs.Prelude.{codes}
use Rattle.bq_value_text.specs.Page.{written}
use Rattle.bq_value_text.specs.Shown.{shown_at, all_shown, pairs_shown}
use Rattle.bq_value_text.proofs.shown.+show.Given as goal

abbrev pub decreases-show : goal.decreases-show
decreases-show l = 3 * l.levels

abbrev pub decreases-show_content : goal.decreases-show_content
decreases-show_content l = 3 * l.levels + 2

abbrev pub decreases-show_items : goal.decreases-show_items
decreases-show_items l = 3 * l.levels + 1

abbrev pub decreases-show_pairs : goal.decreases-show_pairs
decreases-show_pairs l = 3 * l.levels + 1

abbrev pub invariant-show_items-loop-item : goal.invariant-show_items-loop-item
invariant-show_items-loop-item l =
    all_shown (shown_at l.levels l.store) [] (written l.fn.page l.brackets.open.now) l.fn.steps l.items
    ≡ all_shown (shown_at l.levels l.store) l.separator l.page l.left (drop l.item-index l.items)

abbrev pub invariant-show_pairs-loop-i : goal.invariant-show_pairs-loop-i
invariant-show_pairs-loop-i l =
    pairs_shown (shown_at l.levels l.store) [] (written l.fn.page (codes "{")) l.fn.steps l.pairs
    ≡ pairs_shown (shown_at l.levels l.store) l.separator l.page l.left (drop l.i l.pairs)
