-- Frozen modules by their numbers, as a binary trie: the halves of a range of numbers, and of each half the halves.
use Rattle.std.specs.Prelude.{◌≡◌, ◌≤◌, ℕ, List, zero, suc, ◌+◌, ◌-◌, ◌*◌, ◌^◌, [], ◌∷◌, ◌++◌, fold, refl}
use Rattle.std.proofs.Common.{ap}
use Rattle.std.specs.Coded.{coded_ℕ, coded_list}
use base.Stored.{Coded, Gv, gnil, gnum, gcons}
use lib.Bits.{bit_and}
use Rattle.bq_value.specs.Cells.{FrozenCells, Modules, added, coded_cells}

-- no module, the only module of a range of one number, or the modules of the lower half and those of the upper half, with
-- their keys, in one word or in the words of blocks
pub data Trie : Type 0 where
  bare : Trie
  leaf : FrozenCells → Trie
  fork : ℕ → List ℕ → Trie → Trie → Trie

-- which numbers of a range have a module: of each a bit, from the least number on
abbrev pub keys : Trie → ℕ
keys bare = 0
keys (leaf c) = 1
keys (fork k v l r) = k

-- the modules of the lower half of a range
abbrev pub lower : Trie → Trie
lower (fork k v l r) = l
lower _ = bare

-- those of the upper half
abbrev pub upper : Trie → Trie
upper (fork k v l r) = r
upper _ = bare

-- the keys of the blocks of a range that is so many times as high as a block, in order
abbrev pub blocks : ℕ → Trie → List ℕ
blocks zero t = keys t ∷ []
blocks (suc d) t = blocks d (lower t) ++ blocks d (upper t)

-- each word of the first has no bit that the one at its place among the others hasn't
abbrev pub AreWithin : List ℕ → List ℕ → Type 0
AreWithin [] [] = Unit {0}
AreWithin (v ∷ vs) (w ∷ ws) = (bit_and v w ≡ v) × AreWithin vs ws
AreWithin _ _ = ⊥

-- the words of a fork are those of its blocks, if it has any
abbrev pub AreWordsOf : List ℕ → Trie → Trie → ℕ → Type 0
AreWordsOf [] l r height = Unit {0}
AreWordsOf (v ∷ vs) l r height = (height ≡ 12) × (v ∷ vs ≡ blocks 5 l ++ blocks 5 r)

-- a trie for a range of 2 ^ height numbers; its keys are known in blocks of up to 64 numbers, and may be in a range of 64 blocks
abbrev pub IsShaped : Trie → ℕ → Type 0
IsShaped bare height = Unit {0}
IsShaped (leaf c) zero = Unit {0}
IsShaped (leaf c) (suc height) = ⊥
IsShaped (fork k v l r) zero = ⊥
IsShaped (fork k v l r) (suc height) = (suc height ≤ 6 → k ≡ keys r * 2 ^ (2 ^ height) + keys l) × IsShaped l height × IsShaped r height × AreWordsOf v l r (suc height)

-- its modules with their numbers, in order, where the range begins with `base`
abbrev pub entries : Trie → ℕ → ℕ → Modules
entries bare height base = []
entries (leaf c) zero base = (base, c) ∷ []
entries (leaf c) (suc height) base = []
entries (fork k v l r) zero base = []
entries (fork k v l r) (suc height) base = entries l height base ++ entries r height (base + 2 ^ height)

-- the modules of two tries, each with its height; of a number that both have, the module of the first
abbrev pub all_entries : Trie → ℕ → Trie → ℕ → Modules
all_entries t from u to = fold added (entries t from 0) (entries u to 0)

-- a trie of a range with these halves
abbrev pub IsFork : Trie → ℕ → Trie → Trie → Type 0
IsFork t height l r = IsShaped t height × ((base : ℕ) → entries t height base ≡ entries l (height - 1) base ++ entries r (height - 1) (base + 2 ^ (height - 1)))

-- the last trie has of each number of the range the module of the first, or else that of the second
abbrev pub Joins : Trie → Trie → ℕ → Trie → Type 0
Joins t u height j = IsShaped j height × ((base : ℕ) → entries j height base ≡ fold added (entries t height base) (entries u height base))

-- how many nodes a trie has: what a walk over it counts down
abbrev pub nodes : Trie → ℕ
nodes bare = 1
nodes (leaf c) = 1
nodes (fork k v l r) = nodes l + nodes r + 1

abbrev trie_gv : Trie → Gv
trie_gv bare = gnil
trie_gv (leaf c) = gcons gnil (coded_cells.code c)
trie_gv (fork k v l r) = gcons (gcons (trie_gv l) (trie_gv r)) (gcons (gnum k) ((coded_list coded_ℕ).code v))

abbrev first : Gv → Gv
first (gcons a b) = a
first _ = gnil

abbrev second : Gv → Gv
second (gcons a b) = b
second _ = gnil

abbrev number : Gv → ℕ
number (gnum n) = n
number _ = 0

-- tries with the same code are one
pub same_trie : (t u : Trie) → trie_gv t ≡ trie_gv u → t ≡ u
same_trie bare bare e = refl
same_trie (leaf c) (leaf d) e = ap leaf (coded_cells.inj c d (ap second e))
same_trie (fork k v l r) (fork j w m s) e =
    let halves : gcons (trie_gv l) (trie_gv r) ≡ gcons (trie_gv m) (trie_gv s) = ap first e in
    let known : k ≡ j = ap (λ g. number (first (second g))) e in
    let words : v ≡ w = (coded_list coded_ℕ).inj v w (ap (λ g. second (second g)) e) in
    λ i. fork (known i) (words i) (same_trie l m (ap first halves) i) (same_trie r s (ap second halves) i)
same_trie _ _ e = cc

-- a code of each trie, which no other trie has
abbrev pub coded_trie : Coded Trie
coded_trie = record { code = trie_gv; inj = same_trie }
