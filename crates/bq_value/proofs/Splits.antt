-- Lists of modules that are split at a number: what is looked up or added concerns the part of its number alone.
use Rattle.std.proofs.Common.{◌≡◌, ◌≢◌, ◌∙◌, ap, sym, refl, cond, ℕ, ◌+◌, ◌<◌, ◌≤◌, arith, Bool, true, false, List, [], ◌∷◌, ◌++◌, Option, Some, None, is_some, ◌==◌}
use Rattle.std.specs.Prelude.{fold, nat_lt}
use Rattle.std.proofs.lemmas.Bool.{ne_eqb, lt-ltb, le-ltb}
use Rattle.bq_value.specs.Cells.{FrozenCells, Modules, module_at, placed, added}

-- each number is below this one
abbrev pub Below : ℕ → Modules → Type 0
Below n [] = Unit {0}
Below n (m ∷ ms) = (m.0 < n) × Below n ms

-- each number is this one or above it
abbrev pub From : ℕ → Modules → Type 0
From n [] = Unit {0}
From n (m ∷ ms) = (n ≤ m.0) × From n ms

pub below_both : (n : ℕ) (ms ks : Modules) → Below n ms → Below n ks → Below n (ms ++ ks)
below_both n [] ks h k = k
below_both n (m ∷ ms) ks h k = (h.0, below_both n ms ks h.1 k)

pub from_both : (n : ℕ) (ms ks : Modules) → From n ms → From n ks → From n (ms ++ ks)
from_both n [] ks h k = k
from_both n (m ∷ ms) ks h k = (h.0, from_both n ms ks h.1 k)

pub below_more : (n k : ℕ) (ms : Modules) → n ≤ k → Below n ms → Below k ms
below_more n k [] le h = tt
below_more n k (m ∷ ms) le h = (omega (arith, le, h.0), below_more n k ms le h.1)

pub from_less : (n k : ℕ) (ms : Modules) → k ≤ n → From n ms → From k ms
from_less n k [] le h = tt
from_less n k (m ∷ ms) le h = (omega (arith, le, h.0), from_less n k ms le h.1)

-- ---- what is looked up

-- modules from a number on have none below it
above : (home middle : ℕ) (ms : Modules) → home < middle → From middle ms → module_at home ms ≡ None
above home middle [] less h = refl
above home middle (m ∷ ms) less h =
    ap (λ b. cond b (Some m.1) (module_at home ms)) (ne_eqb home m.0 (λ e. omega (arith, e, less, h.0))) ∙ above home middle ms less h.1

-- a module below the number at which a list is split is looked up in the left part alone
pub at_left : (home middle : ℕ) (ls rs : Modules) → home < middle → From middle rs → module_at home (ls ++ rs) ≡ module_at home ls
at_left home middle [] rs less h = above home middle rs less h
at_left home middle (m ∷ ls) rs less h = ap (λ o. cond (home == m.0) (Some m.1) o) (at_left home middle ls rs less h)

-- any other is looked up in the right part alone
pub at_right : (home middle : ℕ) (ls rs : Modules) → middle ≤ home → Below middle ls → module_at home (ls ++ rs) ≡ module_at home rs
at_right home middle [] rs le h = refl
at_right home middle (m ∷ ls) rs le h =
    ap (λ b. cond b (Some m.1) (module_at home (ls ++ rs))) (ne_eqb home m.0 (λ e. omega (arith, e, le, h.0))) ∙ at_right home middle ls rs le h.1

-- ---- what is added

before_all : (m : ℕ × FrozenCells) (middle : ℕ) (rs : Modules) → m.0 < middle → From middle rs → placed m rs ≡ m ∷ rs
before_all m middle [] less h = refl
before_all m middle (r ∷ rs) less h = ap (λ b. cond b (m ∷ r ∷ rs) (r ∷ placed m rs)) (lt-ltb m.0 r.0 (omega (arith, less, h.0)))

left_by : (m l : ℕ × FrozenCells) (ls rs all : Modules) (b : Bool) → all ≡ placed m ls ++ rs → cond b (m ∷ l ∷ (ls ++ rs)) (l ∷ all) ≡ cond b (m ∷ l ∷ ls) (l ∷ placed m ls) ++ rs
left_by m l ls rs all true e = refl
left_by m l ls rs all false e = ap (λ t. l ∷ t) e

placed_left : (m : ℕ × FrozenCells) (middle : ℕ) (ls rs : Modules) → m.0 < middle → From middle rs → placed m (ls ++ rs) ≡ placed m ls ++ rs
placed_left m middle [] rs less h = before_all m middle rs less h
placed_left m middle (l ∷ ls) rs less h = left_by m l ls rs (placed m (ls ++ rs)) (nat_lt m.0 l.0) (placed_left m middle ls rs less h)

placed_right : (m : ℕ × FrozenCells) (middle : ℕ) (ls rs : Modules) → middle ≤ m.0 → Below middle ls → placed m (ls ++ rs) ≡ ls ++ placed m rs
placed_right m middle [] rs le h = refl
placed_right m middle (l ∷ ls) rs le h =
    ap (λ b. cond b (m ∷ l ∷ (ls ++ rs)) (l ∷ placed m (ls ++ rs))) (le-ltb m.0 l.0 (omega (arith, le, h.0)))
    ∙ ap (λ t. l ∷ t) (placed_right m middle ls rs le h.1)

if_left : (ls rs new old : Modules) (b : Bool) → new ≡ old ++ rs → cond b (ls ++ rs) new ≡ cond b ls old ++ rs
if_left ls rs new old true e = refl
if_left ls rs new old false e = e

if_right : (ls rs new old : Modules) (b : Bool) → new ≡ ls ++ old → cond b (ls ++ rs) new ≡ ls ++ cond b rs old
if_right ls rs new old true e = refl
if_right ls rs new old false e = e

pub added_left : (m : ℕ × FrozenCells) (middle : ℕ) (ls rs : Modules) → m.0 < middle → From middle rs → added (ls ++ rs) m ≡ added ls m ++ rs
added_left m middle ls rs less h =
    ap (λ o. cond (is_some o) (ls ++ rs) (placed m (ls ++ rs))) (at_left m.0 middle ls rs less h)
    ∙ if_left ls rs (placed m (ls ++ rs)) (placed m ls) (is_some (module_at m.0 ls)) (placed_left m middle ls rs less h)

pub added_right : (m : ℕ × FrozenCells) (middle : ℕ) (ls rs : Modules) → middle ≤ m.0 → Below middle ls → added (ls ++ rs) m ≡ ls ++ added rs m
added_right m middle ls rs le h =
    ap (λ o. cond (is_some o) (ls ++ rs) (placed m (ls ++ rs))) (at_right m.0 middle ls rs le h)
    ∙ if_right ls rs (placed m (ls ++ rs)) (placed m rs) (is_some (module_at m.0 rs)) (placed_right m middle ls rs le h)

-- ---- numbers stay below

if_below : (n : ℕ) (ms ks : Modules) (b : Bool) → Below n ms → Below n ks → Below n (cond b ms ks)
if_below n ms ks true h k = h
if_below n ms ks false h k = k

placed_below : (n : ℕ) (m : ℕ × FrozenCells) (ms : Modules) → m.0 < n → Below n ms → Below n (placed m ms)
placed_below n m [] less h = (less, tt)
placed_below n m (k ∷ ms) less h = if_below n (m ∷ k ∷ ms) (k ∷ placed m ms) (nat_lt m.0 k.0) (less, h) (h.0, placed_below n m ms less h.1)

all_below : (n : ℕ) (ms ks : Modules) → Below n ms → Below n ks → Below n (fold added ms ks)
all_below n ms [] h k = h
all_below n ms (m ∷ ks) h k = all_below n (added ms m) ks (if_below n ms (placed m ms) (is_some (module_at m.0 ms)) h (placed_below n m ms k.0 h)) k.1

-- ---- lists that are split at one number are added by parts

left_all : (middle : ℕ) (ls rs ks : Modules) → From middle rs → Below middle ks → fold added (ls ++ rs) ks ≡ fold added ls ks ++ rs
left_all middle ls rs [] h k = refl
left_all middle ls rs (m ∷ ks) h k = ap (λ t. fold added t ks) (added_left m middle ls rs k.0 h) ∙ left_all middle (added ls m) rs ks h k.1

right_all : (middle : ℕ) (ls rs ks : Modules) → Below middle ls → From middle ks → fold added (ls ++ rs) ks ≡ ls ++ fold added rs ks
right_all middle ls rs [] h k = refl
right_all middle ls rs (m ∷ ks) h k = ap (λ t. fold added t ks) (added_right m middle ls rs k.0 h) ∙ right_all middle ls (added rs m) ks h k.1

fold_both : (ms ks js : Modules) → fold added ms (ks ++ js) ≡ fold added (fold added ms ks) js
fold_both ms [] js = refl
fold_both ms (k ∷ ks) js = fold_both (added ms k) ks js

pub by_parts : (middle : ℕ) (ls rs ks js : Modules) → Below middle ls → From middle rs → Below middle ks → From middle js
    → fold added (ls ++ rs) (ks ++ js) ≡ fold added ls ks ++ fold added rs js
by_parts middle ls rs ks js l r k j =
    fold_both (ls ++ rs) ks js
    ∙ (ap (λ t. fold added t js) (left_all middle ls rs ks r k) ∙ right_all middle (fold added ls ks) rs js (all_below middle ls ks l k) j)
