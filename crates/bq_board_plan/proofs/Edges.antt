-- Where the edges into a module begin.
use Rattle.std.proofs.Common.{◌≡◌, ℕ, zero, suc, ◌+◌, ◌-◌, ◌<◌, ◌≤◌, List, [], ◌∷◌, ◌++◌, length, get_or, take, sym, refl, ap, ◌∙◌, arith, length-append}
use Rattle.std.specs.List.{sum_by}
use Rattle.std.proofs.lemmas.List.Sums.{sum_by-cons, sum_by-take-le, sum_by_more}
use Rattle.std.proofs.Math.Seq.{take-length}
use Rattle.std.proofs.lemmas.List.{take-take, get_or_append_left, get_or-append_right}
use mathlib.Core.Logic.{dite}
use native.Mathlib.Decide.{dec_le, dec_lt}
use Rattle.bq_board_plan.specs.Graph.{Loads, row, sources, edges, Known}
use Rattle.bq_board_plan.specs.Plan.{source, start, Into, EdgesAreLoads}
use Rattle.bq_board_plan.specs.Counts.{Has}
use Rattle.bq_board_plan.proofs.Settling.{Has-get_or}

pub edges_sum : (p : Loads) → edges p ≡ sum_by length p
edges_sum [] = refl
edges_sum (r ∷ rs) = omega (arith, length-append r (sources rs), edges_sum rs, sum_by-cons (length {A = ℕ}) r rs)

pub start_le : (p : Loads) (m : ℕ) → start p m ≤ edges p
start_le p m = omega (arith, edges_sum p, sum_by-take-le (length {A = ℕ}) p m)

pub start_whole : (p : Loads) → start p (length p) ≡ edges p
start_whole p = ap (sum_by (length {A = ℕ})) (take-length p) ∙ sym (edges_sum p)

pub start_none : (p : Loads) → start p 0 ≡ 0
start_none [] = refl
start_none (r ∷ rs) = refl

pub start_next : (p : Loads) (m : ℕ) → m < length p → start p (m + 1) ≡ start p m + length (row p m)
start_next p m h = sum_by_more (length {A = ℕ}) p m [] h

pub start_mono : (p : Loads) (i j : ℕ) → i ≤ j → start p i ≤ start p j
start_mono p i j h = let e : take i (take j p) ≡ take i p = take-take i j p h in let t = sum_by-take-le (length {A = ℕ}) (take j p) i in omega (arith, ap (sum_by (length {A = ℕ})) e)

-- an edge runs into one module
pub into_once : (p : Loads) (i j e : ℕ) → Into p i e → Into p j e → i ≡ j
into_once p i j e a c = dite (dec_le (i + 1) j) (λ h. let m = start_mono p (i + 1) j h in absurd (omega arith))
    (λ n. dite (dec_le (j + 1) i) (λ h. let m = start_mono p (j + 1) i h in absurd (omega arith)) (λ l. omega arith))

source_below : (p : Loads) (n : ℕ) → ((m l : ℕ) → Has (row p m) l → l < n) → (e : ℕ) → e < edges p → source p e < n
source_below [] n known e h = absurd (omega arith)
source_below (r ∷ rs) n known e h = dite (dec_lt e (length r))
    (λ lt. omega (arith, get_or_append_left r (sources rs) 0 e lt, known 0 (get_or r e 0) (Has-get_or r e lt)))
    (λ ge. let long = length-append r (sources rs) in
    omega (arith, get_or-append_right r (sources rs) (length r) e 0 refl (omega arith), source_below rs n (λ m l k. known (suc m) l k) (e - length r) (omega arith)))

-- an edge's source is a module of the graph
pub source_known : (p : Loads) → Known p → (e : ℕ) → e < edges p → source p e < length p
source_known p known e h = source_below p (length p) known e h

source_at : (p : Loads) (m k : ℕ) → m < length p → k < length (row p m) → source p (start p m + k) ≡ get_or (row p m) k 0
source_at [] m k h lt = absurd (omega arith)
source_at (r ∷ rs) zero k h lt = ap (λ (e : ℕ). get_or (r ++ sources rs) e 0) (omega (arith, start_none (r ∷ rs))) ∙ get_or_append_left r (sources rs) 0 k lt
source_at (r ∷ rs) (suc m) k h lt = let first = sum_by-cons (length {A = ℕ}) r (take m rs) in
    get_or-append_right r (sources rs) (length r) (start (r ∷ rs) (suc m) + k) 0 refl (omega arith)
    ∙ ap (λ (e : ℕ). get_or (sources rs) e 0) (omega arith) ∙ source_at rs m k (omega arith) lt

pub are_loads : (p : Loads) → EdgesAreLoads p
are_loads p m h = let next = start_next p m h in (
  (λ k lt. ((omega arith, omega arith), source_at p m k h lt)),
  (λ e into. (e - start p m, omega (arith, into.0, into.1), omega (arith, into.0))),
)
