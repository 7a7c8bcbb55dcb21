-- The rows of a graph as its fields hold them.
use Rattle.std.proofs.Common.{◌≡◌, ℕ, ◌+◌, ◌<◌, ◌⊎◌, List, [], length, take, get_or, sym, ap, subst, ◌∙◌, arith, Vec, Global}
use Rattle.std.proofs.lemmas.List.{get_or-map}
use mathlib.Core.Logic.{dite}
use native.Mathlib.Decide.{ℕ_discrete}
use Rattle.bq_board_plan.specs.Counts.{Has}
use Rattle.bq_board_plan.specs.Graph.{Loads, row, lists}
use Rattle.bq_board_plan.proofs.Sums.{Has_snoc}
use Rattle.bq_board_plan.proofs.Settling.{times_take_more}

abbrev pub items : Vec ℕ Global → List ℕ
items r = r.items

pub row_is : (vs : List (Vec ℕ Global)) (k : ℕ) (v : Vec ℕ Global) → k < length vs → v ≡ get_or vs k v → row (lists vs) k ≡ v.items
row_is vs k v h read = get_or-map items vs k v [] h ∙ ap items (sym read)

-- what is in the first i + 1 entries is in the first i, or is the entry at i
pub Has_take_more : (xs : List ℕ) (i x : ℕ) → i < length xs → Has (take (i + 1) xs) x → Has (take i xs) x ⊎ (get_or xs i 0 ≡ x)
Has_take_more xs i x h k = Has_snoc (take i xs) (get_or xs i 0) x (omega (arith, times_take_more xs i x h))

-- each entry of the first i rows is below n, and so is each of the row at i
pub known_more : (p : Loads) (i n : ℕ) → ((m x : ℕ) → m < i → Has (row p m) x → x < n) → ((x : ℕ) → Has (row p i) x → x < n) → (m x : ℕ) → m < i + 1 → Has (row p m) x → x < n
known_more p i n old new m x h k = dite (ℕ_discrete m i) (λ e. new x (subst (λ (z : ℕ). Has (row p z) x) e k)) (λ ne. old m x (omega arith) k)
