-- A tuple and a cell, where steps and levels are left.
use Rattle.std.proofs.Common.{◌≡◌, ℕ, zero, suc, ◌<◌, ◌-◌, List, ap, arith, sub-one, Some}
use Rattle.std.specs.Prelude.{codes}
use Rattle.bq_value.specs.Datum.{Datum, tuple, cell, data_of, list_of_data_of}
use Rattle.bq_value.specs.Contents.{Contents}
use Rattle.bq_value.specs.Cells.{StoreView, content_at}
use Rattle.bq_value_text.specs.Page.{PageView}
use Rattle.bq_value_text.specs.Shown.{shown_at, list_shown, contents_shown, cell_shown, tuple_end}

pub tuple_step : (l : ℕ) (s : StoreView) (page : PageView) (n : ℕ) (xs : List Datum) → 0 < l → 0 < n
    → shown_at l s page n (tuple (data_of xs)) ≡ list_shown (shown_at (l - 1) s) (codes "(") (tuple_end xs) page (n - 1) xs
tuple_step zero s page n xs h k = absurd (omega arith)
tuple_step (suc l) s page zero xs h k = absurd (omega arith)
tuple_step (suc l) s page (suc n) xs h k = simp sub-one (ap (λ ys. list_shown (shown_at l s) (codes "(") (tuple_end ys) page n ys) (list_of_data_of xs))

pub cell_step : (l : ℕ) (s : StoreView) (page : PageView) (n home number : ℕ) (c : Contents) → 0 < l → 0 < n → content_at s home number ≡ Some c
    → shown_at l s page n (cell home number) ≡ contents_shown (shown_at (l - 1) s) page (n - 1) c
cell_step zero s page n home number c h k e = absurd (omega arith)
cell_step (suc l) s page zero home number c h k e = absurd (omega arith)
cell_step (suc l) s page (suc n) home number c h k e = simp sub-one (ap (cell_shown (shown_at l s) page n) e)
