-- A cell of the running module that the store knows is one of its cells.
use Rattle.std.proofs.Common.{◌≡◌, ◌∙◌, ◌<◌, sym, ap, ℕ, cond, length, Some, slice_get}
use Rattle.std.specs.Cmp.{unsigned_Decides}
use Rattle.std.proofs.lemmas.Option.{slice_get_within}
use Rattle.bq_value.specs.Contents.{Contents}
use Rattle.bq_value.specs.Cells.{StoreView, content_at, cell_of, module_at}

pub known_by : (s : StoreView) (home number : ℕ) → home ≡ s.own → content_at s home number ≡ slice_get s.cells number
unfolding content_at
known_by s home number own =
    ap (λ t. cond t (slice_get s.cells number) (cell_of number (module_at home s.loaded))) ((unsigned_Decides home s.own).1 own)

pub known_here : (s : StoreView) (home number : ℕ) (c : Contents) → home ≡ s.own → content_at s home number ≡ Some c → slice_get s.cells number ≡ Some c
known_here s home number c own h = sym (known_by s home number own) ∙ h

pub known_within : (s : StoreView) (home number : ℕ) (c : Contents) → home ≡ s.own → content_at s home number ≡ Some c → number < length s.cells
known_within s home number c own h = slice_get_within s.cells number c (known_here s home number c own h)
