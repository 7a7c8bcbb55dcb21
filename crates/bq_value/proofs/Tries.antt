-- The modules of a trie as a list: what is looked up in a trie, and what is joined to it, is so of the list.
use Rattle.std.proofs.Common.{append_assoc, ◌≡◌, ◌≢◌, ◌∙◌, ap, sym, refl, subst, cond, ℕ, zero, suc, ◌+◌, ◌-◌, ◌*◌, ◌%◌, ◌^◌, ◌<◌, ◌≤◌, arith, Bool, true, false, List, [], ◌∷◌, ◌++◌, length, Option, Some, None, is_some, ◌==◌}
use Rattle.std.specs.Prelude.{fold, nat_lt, MatchOption}
use Rattle.std.specs.Option.{unwrap_or}
use Rattle.std.proofs.lemmas.Bool.{ltb-true, ltb-false}
use Rattle.std.proofs.Math.Nat.{pow-suc}
use Rattle.std.proofs.lemmas.Nat.{pow_pos, pow-add, pow_below, mul-add-lt, same_from_place, and_le_r, and_block, one_shl, shl_whole, or_shifted}
use Rattle.std.proofs.lemmas.List.{length-append}
use lib.Bits.{bit_and, bit_or}
use Rattle.std.specs.Cmp.{unsigned_Decides}
use Rattle.bq_value.specs.Cells.{FrozenCells, Modules, module_at, placed, added}
use Rattle.bq_value.specs.Tries.{Trie, bare, leaf, fork, keys, lower, upper, blocks, AreWithin, AreWordsOf, IsShaped, IsFork, Joins, entries}
use Rattle.bq_value.proofs.Splits.{Below, From, below_both, from_both, below_more, from_less, at_left, at_right, by_parts}

-- ---- powers of two

pub twice : (h : ℕ) → 2 ^ suc h ≡ 2 ^ h + 2 ^ h
twice h = omega (arith, pow-suc 2 h)

low_by : (h base : ℕ) (b : Bool) → nat_lt 32 h ≡ b → base + 2 ^ h ≤ 2 ^ 32 → h ≤ 32
low_by h base true e le = absurd (omega (arith, pow_below 32 h (ltb-true 32 h e), le))
low_by h base false e le = ltb-false 32 h e

-- a range of 32-bit numbers has at most 2 ^ 32
pub low : (h base : ℕ) → base + 2 ^ h ≤ 2 ^ 32 → h ≤ 32
low h base le = low_by h base (nat_lt 32 h) refl le

le_by : (i j : ℕ) (b : Bool) → nat_lt i j ≡ b → i ≤ j → 2 ^ i ≤ 2 ^ j
le_by i j true e le = omega (arith, pow_below i j (ltb-true i j e))
le_by i j false e le =
    let same : i ≡ j = omega (arith, le, ltb-false i j e) in
    subst (λ n. 2 ^ i ≤ 2 ^ n) same (omega arith)

pub pow_le : (i j : ℕ) → i ≤ j → 2 ^ i ≤ 2 ^ j
pow_le i j le = le_by i j (nat_lt i j) refl le

-- ---- the numbers of a trie's modules

pub entries_from : (t : Trie) (h base : ℕ) → From base (entries t h base)
entries_from bare h base = tt
entries_from (leaf c) zero base = (omega arith, tt)
entries_from (leaf c) (suc h) base = tt
entries_from (fork k v l r) zero base = tt
entries_from (fork k v l r) (suc h) base =
    from_both base (entries l h base) (entries r h (base + 2 ^ h)) (entries_from l h base) (from_less (base + 2 ^ h) base (entries r h (base + 2 ^ h)) (omega arith) (entries_from r h (base + 2 ^ h)))

pub entries_below : (t : Trie) (h base : ℕ) → Below (base + 2 ^ h) (entries t h base)
entries_below bare h base = tt
entries_below (leaf c) zero base = (omega arith, tt)
entries_below (leaf c) (suc h) base = tt
entries_below (fork k v l r) zero base = tt
entries_below (fork k v l r) (suc h) base =
    let double = twice h in
    below_both (base + 2 ^ suc h) (entries l h base) (entries r h (base + 2 ^ h))
    (below_more (base + 2 ^ h) (base + 2 ^ suc h) (entries l h base) (omega (arith, double)) (entries_below l h base))
    (below_more (base + 2 ^ h + 2 ^ h) (base + 2 ^ suc h) (entries r h (base + 2 ^ h)) (omega (arith, double)) (entries_below r h (base + 2 ^ h)))

-- ---- forks

one_less : (h : ℕ) → suc h - 1 ≡ h
one_less h = omega arith

pub twice_less : (h : ℕ) → 0 < h → 2 ^ h ≡ 2 ^ (h - 1) + 2 ^ (h - 1)
twice_less zero above = absurd (omega arith)
twice_less (suc h) above = subst (λ k. 2 ^ suc h ≡ 2 ^ k + 2 ^ k) (sym (one_less h)) (twice h)

-- what is known of a fork
pub record Forked (t : Trie) (k : ℕ) (v : List ℕ) (l r : Trie) (height : ℕ) : Type 0 where
  pub above : 0 < height
  pub known : height ≤ 6 → k ≡ keys r * 2 ^ (2 ^ (height - 1)) + keys l
  pub words : AreWordsOf v l r height
  pub left : IsShaped l (height - 1)
  pub right : IsShaped r (height - 1)
  pub twice : 2 ^ height ≡ 2 ^ (height - 1) + 2 ^ (height - 1)
  pub is : IsFork t height l r

forked_by : (k : ℕ) (v : List ℕ) (l r : Trie) (h : ℕ) → IsShaped (fork k v l r) h → Forked (fork k v l r) k v l r h
forked_by k v l r zero s = absurd s
forked_by k v l r (suc h) s =
    let P : ℕ → Type 0 = λ j.
    (suc h ≤ 6 → k ≡ keys r * 2 ^ (2 ^ j) + keys l) × IsShaped l j × IsShaped r j × (2 ^ suc h ≡ 2 ^ j + 2 ^ j)
    × ((base : ℕ) → entries (fork k v l r) (suc h) base ≡ entries l j base ++ entries r j (base + 2 ^ j)) in
    let p : P (suc h - 1) = subst P (sym (one_less h)) (s.0, s.1, s.2, twice h, λ base. refl) in
    record { above = omega arith; known = p.0; words = s.3; left = p.1; right = p.2; twice = p.3; is = (s, p.4) }

pub forked : (t : Trie) (k : ℕ) (v : List ℕ) (l r : Trie) (h : ℕ) → t ≡ fork k v l r → IsShaped t h → Forked t k v l r h
forked t k v l r h e s = subst (λ u. Forked u k v l r h) (sym e) (forked_by k v l r h (subst (λ u. IsShaped u h) e s))

fork_by : (k : ℕ) (v : List ℕ) (l r : Trie) (h : ℕ) → 0 < h → (h ≤ 6 → k ≡ keys r * 2 ^ (2 ^ (h - 1)) + keys l) → AreWordsOf v l r h → IsShaped l (h - 1) → IsShaped r (h - 1) → IsFork (fork k v l r) h l r
fork_by k v l r zero above known words s m = absurd (omega arith)
fork_by k v l r (suc h) above known words s m =
    let P : ℕ → Type 0 = λ j.
    (suc h ≤ 6 → k ≡ keys r * 2 ^ (2 ^ j) + keys l) × IsShaped l j × IsShaped r j × AreWordsOf v l r (suc h) in
    let Q : ℕ → Type 0 = λ j. (base : ℕ) → entries (fork k v l r) (suc h) base ≡ entries l j base ++ entries r j (base + 2 ^ j) in
    let p : P h = subst P (one_less h) (known, s, m, words) in
    (p, subst Q (sym (one_less h)) (λ base. refl))

-- a fork that is made
pub is_fork : (t : Trie) (k : ℕ) (v : List ℕ) (l r : Trie) (h : ℕ) → t ≡ fork k v l r → 0 < h → (h ≤ 6 → k ≡ keys r * 2 ^ (2 ^ (h - 1)) + keys l) → AreWordsOf v l r h → IsShaped l (h - 1) → IsShaped r (h - 1) → IsFork t h l r
is_fork t k v l r h e above known words s m = subst (λ u. IsFork u h l r) (sym e) (fork_by k v l r h above known words s m)

-- ---- what is looked up

pub get_left : (t l r : Trie) (h base home : ℕ) → IsFork t h l r → home < base + 2 ^ (h - 1) → module_at home (entries l (h - 1) base) ≡ module_at home (entries t h base)
get_left t l r h base home f less =
    sym (ap (module_at home) (f.1 base) ∙ at_left home (base + 2 ^ (h - 1)) (entries l (h - 1) base) (entries r (h - 1) (base + 2 ^ (h - 1))) less (entries_from r (h - 1) (base + 2 ^ (h - 1))))

pub get_right : (t l r : Trie) (h base home : ℕ) → IsFork t h l r → base + 2 ^ (h - 1) ≤ home → module_at home (entries r (h - 1) (base + 2 ^ (h - 1))) ≡ module_at home (entries t h base)
get_right t l r h base home f le =
    sym (ap (module_at home) (f.1 base) ∙ at_right home (base + 2 ^ (h - 1)) (entries l (h - 1) base) (entries r (h - 1) (base + 2 ^ (h - 1))) le (entries_below l (h - 1) base))

leaf_by : (c : FrozenCells) (h base home : ℕ) → IsShaped (leaf c) h → module_at home (entries (leaf c) h base) ≡ cond (home == base) (Some c) None
leaf_by c zero base home s = refl
leaf_by c (suc h) base home s = absurd s

pub get_leaf : (t : Trie) (c : FrozenCells) (h base home : ℕ) → t ≡ leaf c → IsShaped t h → module_at home (entries t h base) ≡ cond (home == base) (Some c) None
get_leaf t c h base home e s = ap (λ u. module_at home (entries u h base)) e ∙ leaf_by c h base home (subst (λ u. IsShaped u h) e s)

-- ---- keys

pub keys_below : (t : Trie) (h : ℕ) → h ≤ 6 → IsShaped t h → keys t < 2 ^ (2 ^ h)
keys_below bare h low s = pow_pos (2 ^ h)
keys_below (leaf c) zero low s = omega arith
keys_below (leaf c) (suc h) low s = absurd s
keys_below (fork k v l r) zero low s = absurd s
keys_below (fork k v l r) (suc h) low s =
    let within : keys r * 2 ^ (2 ^ h) + keys l < 2 ^ (2 ^ h) * 2 ^ (2 ^ h) =
    mul-add-lt (keys r) (2 ^ (2 ^ h)) (keys l) (2 ^ (2 ^ h)) (keys_below r h (omega (arith, low)) s.2) (keys_below l h (omega (arith, low)) s.1) in
    let square : 2 ^ (2 ^ suc h) ≡ 2 ^ (2 ^ h) * 2 ^ (2 ^ h) = ap (λ n. 2 ^ n) (twice h) ∙ pow-add 2 (2 ^ h) (2 ^ h) in
    subst (λ n. keys (fork k v l r) < n) (sym square) (subst (λ n. n < 2 ^ (2 ^ h) * 2 ^ (2 ^ h)) (sym (s.0 low)) within)

-- the width of a half of a block
pub width : (h : ℕ) → h ≤ 6 → 0 < h → (1 * 2 ^ (h - 1)) % 2 ^ 32 ≡ 2 ^ (h - 1)
width h low above = one_shl (h - 1) 32 (omega (arith, low, above))

pub narrow : (h : ℕ) → h ≤ 6 → 0 < h → 2 ^ (h - 1) ≤ 32
narrow h low above = pow_le (h - 1) 5 (omega (arith, low, above))

-- the keys of two halves in one word
pub both_keys : (l r : Trie) (h : ℕ) → h ≤ 6 → 0 < h → IsShaped l (h - 1) → IsShaped r (h - 1) → bit_or ((keys r * 2 ^ (2 ^ (h - 1))) % 2 ^ 64) (keys l) ≡ keys r * 2 ^ (2 ^ (h - 1)) + keys l
both_keys l r h low above s k =
    let fits : h - 1 ≤ 6 = omega (arith, low) in
    let room : 2 ^ (h - 1) + 2 ^ (h - 1) ≤ 64 = omega (arith, narrow h low above) in
    ap (λ n. bit_or n (keys l)) (shl_whole (keys r) (2 ^ (h - 1)) (2 ^ (h - 1)) 64 (keys_below r (h - 1) fits k) room)
    ∙ or_shifted (keys r) (2 ^ (h - 1)) (keys l) (keys_below l (h - 1) fits s)

-- what is within by all bits is so by the upper and the lower ones
halves_within : (j a b c d : ℕ) → b < 2 ^ j → d < 2 ^ j → bit_and (a * 2 ^ j + b) (c * 2 ^ j + d) ≡ a * 2 ^ j + b → (bit_and a c ≡ a) × (bit_and b d ≡ b)
halves_within j a b c d p q e =
    let least : bit_and b d < 2 ^ j = omega (arith, and_le_r b d, q) in
    same_from_place (bit_and a c) (bit_and b d) a b (2 ^ j) least p (sym (and_block j a c b d p q) ∙ e)

no_keys : (u : Trie) (h base : ℕ) → h ≤ 6 → IsShaped u h → keys u ≡ 0 → entries u h base ≡ []
no_keys bare h base low s e = refl
no_keys (leaf c) zero base low s e = absurd (omega (arith, e))
no_keys (leaf c) (suc h) base low s e = refl
no_keys (fork k v l r) zero base low s e = refl
no_keys (fork k v l r) (suc h) base low s e =
    let none : keys r * 2 ^ (2 ^ h) + keys l ≡ 0 * 2 ^ (2 ^ h) + 0 = sym (s.0 low) ∙ (e ∙ omega arith) in
    let p = same_from_place (keys r) (keys l) 0 0 (2 ^ (2 ^ h)) (keys_below l h (omega (arith, low)) s.1) (pow_pos (2 ^ h)) none in
    ap (λ z. z ++ entries r h (base + 2 ^ h)) (no_keys l h base (omega (arith, low)) s.1 p.1) ∙ no_keys r h (base + 2 ^ h) (omega (arith, low)) s.2 p.0

-- ---- joined

halves : (k : ℕ) (v : List ℕ) (l r : Trie) (j : ℕ) (w : List ℕ) (m s : Trie) (h base : ℕ)
    → fold added (entries (fork k v l r) (suc h) base) (entries (fork j w m s) (suc h) base) ≡ fold added (entries l h base) (entries m h base) ++ fold added (entries r h (base + 2 ^ h)) (entries s h (base + 2 ^ h))
halves k v l r j w m s h base =
    by_parts (base + 2 ^ h) (entries l h base) (entries r h (base + 2 ^ h)) (entries m h base) (entries s h (base + 2 ^ h))
    (entries_below l h base) (entries_from r h (base + 2 ^ h)) (entries_below m h base) (entries_from s h (base + 2 ^ h))

-- each module of a trie is once in its list
all_new : (t : Trie) (h base : ℕ) → fold added [] (entries t h base) ≡ entries t h base
all_new bare h base = refl
all_new (leaf c) zero base = refl
all_new (leaf c) (suc h) base = refl
all_new (fork k v l r) zero base = refl
all_new (fork k v l r) (suc h) base =
    by_parts (base + 2 ^ h) [] [] (entries l h base) (entries r h (base + 2 ^ h)) tt tt (entries_below l h base) (entries_from r h (base + 2 ^ h))
    ∙ (ap (λ z. z ++ fold added [] (entries r h (base + 2 ^ h))) (all_new l h base) ∙ ap (λ z. entries l h base ++ z) (all_new r h (base + 2 ^ h)))

one_number : (base : ℕ) (c d : FrozenCells) (b : Bool) → b ≡ true
    → cond (is_some (cond b (Some c) None)) ((base, c) ∷ []) (placed (base, d) ((base, c) ∷ [])) ≡ (base, c) ∷ []
one_number base c d true e = refl
one_number base c d false e = absurd (cc)

-- nothing is new where all keys are there
all_there : (t u : Trie) (h base : ℕ) → h ≤ 6 → IsShaped t h → IsShaped u h → bit_and (keys u) (keys t) ≡ keys u → fold added (entries t h base) (entries u h base) ≡ entries t h base
all_there t bare h base low s k e = refl
all_there bare (leaf d) h base low s k e = ap (fold added []) (no_keys (leaf d) h base low k (omega (arith, and_le_r (keys (leaf d)) 0, e)))
all_there bare (fork j w m n) h base low s k e = ap (fold added []) (no_keys (fork j w m n) h base low k (omega (arith, and_le_r j 0, e)))
all_there (leaf c) (leaf d) zero base low s k e = one_number base c d (base == base) ((unsigned_Decides base base).1 refl)
all_there (leaf c) (leaf d) (suc h) base low s k e = refl
all_there (leaf c) (fork j w m n) zero base low s k e = refl
all_there (leaf c) (fork j w m n) (suc h) base low s k e = absurd s
all_there (fork i v l r) (leaf d) zero base low s k e = absurd s
all_there (fork i v l r) (leaf d) (suc h) base low s k e = refl
all_there (fork i v l r) (fork j w m n) zero base low s k e = refl
all_there (fork i v l r) (fork j w m n) (suc h) base low s k e =
    let fits : h ≤ 6 = omega (arith, low) in
    let P : ℕ → ℕ → Type 0 = λ x y. bit_and y x ≡ y in
    let both : P (keys r * 2 ^ (2 ^ h) + keys l) (keys n * 2 ^ (2 ^ h) + keys m) =
    subst (λ x. P x (keys n * 2 ^ (2 ^ h) + keys m)) (s.0 low) (subst (λ y. P i y) (k.0 low) e) in
    let p = halves_within (2 ^ h) (keys n) (keys m) (keys r) (keys l) (keys_below m h fits k.1) (keys_below l h fits s.1) both in
    halves i v l r j w m n h base
    ∙ (ap (λ z. z ++ fold added (entries r h (base + 2 ^ h)) (entries n h (base + 2 ^ h))) (all_there l m h base fits s.1 k.1 p.1)
    ∙ ap (λ z. entries l h base ++ z) (all_there r n h (base + 2 ^ h) fits s.2 k.2 p.0))

pub joins_none : (t u : Trie) (h : ℕ) → u ≡ bare → IsShaped t h → Joins t u h t
joins_none t u h e s = (s, λ base. sym (ap (λ v. fold added (entries t h base) (entries v h base)) e))

pub joins_all : (t u : Trie) (h : ℕ) → t ≡ bare → IsShaped u h → Joins t u h u
joins_all t u h e s = (s, λ base. sym (ap (λ v. fold added (entries v h base) (entries u h base)) e ∙ all_new u h base))

-- the other trie, where it has a module
pub joins_some : (o : Option Trie) (t u : Trie) (h : ℕ) → t ≡ bare → unwrap_or o bare ≡ u → IsShaped u h → Joins t u h (unwrap_or o t)
joins_some o t u h e f s = subst (λ j. Joins t u h j) (sym (ap (λ v. unwrap_or o v) e ∙ f)) (joins_all t u h e s)

one_by : (c : FrozenCells) (u : Trie) (h base : ℕ) → IsShaped (leaf c) h → IsShaped u h → entries (leaf c) h base ≡ fold added (entries (leaf c) h base) (entries u h base)
one_by c bare h base s k = refl
one_by c (leaf d) zero base s k = sym (one_number base c d (base == base) ((unsigned_Decides base base).1 refl))
one_by c (leaf d) (suc h) base s k = absurd s
one_by c (fork j w m n) zero base s k = absurd k
one_by c (fork j w m n) (suc h) base s k = absurd s

pub joins_leaf : (t u : Trie) (c : FrozenCells) (h : ℕ) → t ≡ leaf c → IsShaped t h → IsShaped u h → Joins t u h t
joins_leaf t u c h e s k = (s, λ base. subst (λ v. entries v h base ≡ fold added (entries v h base) (entries u h base)) (sym e) (one_by c u h base (subst (λ v. IsShaped v h) e s) k))

no_leaf : (k : ℕ) (v : List ℕ) (l r : Trie) (d : FrozenCells) (h : ℕ) → IsShaped (fork k v l r) h → IsShaped (leaf d) h → ⊥
no_leaf k v l r d zero s i = s
no_leaf k v l r d (suc h) s i = i

-- a fork and a leaf are not of one range
pub apart : (t u : Trie) (k : ℕ) (v : List ℕ) (l r : Trie) (d : FrozenCells) (h : ℕ) → t ≡ fork k v l r → u ≡ leaf d → IsShaped t h → IsShaped u h → ⊥
apart t u k v l r d h e f s i = no_leaf k v l r d h (subst (λ v. IsShaped v h) e s) (subst (λ v. IsShaped v h) f i)

-- ---- the words of blocks

-- how many words there are
blocks_long : (d : ℕ) (t u : Trie) → length (blocks d t) ≡ length (blocks d u)
blocks_long zero t u = refl
blocks_long (suc d) t u =
    length-append (blocks d (lower t)) (blocks d (upper t))
    ∙ (ap (λ n. n + length (blocks d (upper t))) (blocks_long d (lower t) (lower u))
    ∙ (ap (λ n. length (blocks d (lower u)) + n) (blocks_long d (upper t) (upper u)) ∙ sym (length-append (blocks d (lower u)) (blocks d (upper u)))))

within_parts : (xs ys zs ws : List ℕ) → length xs ≡ length zs → AreWithin (xs ++ ys) (zs ++ ws) → AreWithin xs zs × AreWithin ys ws
within_parts [] ys [] ws e w = (tt, w)
within_parts [] ys (z ∷ zs) ws e w = absurd (omega (arith, e))
within_parts (x ∷ xs) ys [] ws e w = absurd (omega (arith, e))
within_parts (x ∷ xs) ys (z ∷ zs) ws e w =
    let p = within_parts xs ys zs ws (omega (arith, e)) w.1 in
    ((w.0, p.0), p.1)

lower_shaped : (t : Trie) (h : ℕ) → IsShaped t (suc h) → IsShaped (lower t) h
lower_shaped bare h s = tt
lower_shaped (leaf c) h s = absurd s
lower_shaped (fork k v l r) h s = s.1

upper_shaped : (t : Trie) (h : ℕ) → IsShaped t (suc h) → IsShaped (upper t) h
upper_shaped bare h s = tt
upper_shaped (leaf c) h s = absurd s
upper_shaped (fork k v l r) h s = s.2

both_halves : (t : Trie) (h base : ℕ) → IsShaped t (suc h) → entries t (suc h) base ≡ entries (lower t) h base ++ entries (upper t) h (base + 2 ^ h)
both_halves bare h base s = refl
both_halves (leaf c) h base s = absurd s
both_halves (fork k v l r) h base s = refl

-- nothing is new where all keys of all blocks are there
blocks_there : (d h : ℕ) → h ≡ d + 6 → (t u : Trie) (base : ℕ) → IsShaped t h → IsShaped u h → AreWithin (blocks d u) (blocks d t) → fold added (entries t h base) (entries u h base) ≡ entries t h base
blocks_there zero h e t u base s k w = all_there t u h base (omega (arith, e)) s k w.0
blocks_there (suc d) zero e t u base s k w = absurd (omega (arith, e))
blocks_there (suc d) (suc h) e t u base s k w =
    let below : h ≡ d + 6 = omega (arith, e) in
    let middle : ℕ = base + 2 ^ h in
    let p = within_parts (blocks d (lower u)) (blocks d (upper u)) (blocks d (lower t)) (blocks d (upper t)) (blocks_long d (lower u) (lower t)) w in
    let low = blocks_there d h below (lower t) (lower u) base (lower_shaped t h s) (lower_shaped u h k) p.0 in
    let high = blocks_there d h below (upper t) (upper u) middle (upper_shaped t h s) (upper_shaped u h k) p.1 in
    ap (fold added (entries t (suc h) base)) (both_halves u h base k)
    ∙ (ap (λ z. fold added z (entries (lower u) h base ++ entries (upper u) h middle)) (both_halves t h base s)
    ∙ (by_parts middle (entries (lower t) h base) (entries (upper t) h middle) (entries (lower u) h base) (entries (upper u) h middle)
    (entries_below (lower t) h base) (entries_from (upper t) h middle) (entries_below (lower u) h base) (entries_from (upper u) h middle)
    ∙ (ap (λ z. z ++ fold added (entries (upper t) h middle) (entries (upper u) h middle)) low
    ∙ (ap (λ z. entries (lower t) h base ++ z) high ∙ sym (both_halves t h base s)))))

-- the words of a range by those of its halves
pub blocks_above : (h : ℕ) (t : Trie) → 6 < h → blocks (h - 6) t ≡ blocks (h - 1 - 6) (lower t) ++ blocks (h - 1 - 6) (upper t)
blocks_above h t above = let e : h - 6 ≡ suc (h - 1 - 6) = omega (arith, above) in ap (λ n. blocks n t) e

pub words_pushed : (h : ℕ) (t : Trie) (xs : List ℕ) → 6 < h → (xs ++ blocks (h - 1 - 6) (lower t)) ++ blocks (h - 1 - 6) (upper t) ≡ xs ++ blocks (h - 6) t
words_pushed h t xs above = append_assoc xs (blocks (h - 1 - 6) (lower t)) (blocks (h - 1 - 6) (upper t)) ∙ ap (λ z. xs ++ z) (sym (blocks_above h t above))

pub blocks_at : (h : ℕ) (t : Trie) → h ≡ 6 → blocks (h - 6) t ≡ keys t ∷ []
blocks_at h t e = let none : h - 6 ≡ 0 = omega (arith, e) in ap (λ n. blocks n t) none

pub words_are : (v : List ℕ) (l r : Trie) (h : ℕ) → h ≡ 12 → v ≡ blocks (h - 1 - 6) l ++ blocks (h - 1 - 6) r → AreWordsOf v l r h
words_are [] l r h e f = tt
words_are (w ∷ v) l r h e f = let five : h - 1 - 6 ≡ 5 = omega (arith, e) in (e, f ∙ ap (λ n. blocks n l ++ blocks n r) five)

-- what is known of words that are there
words_known : (v : List ℕ) (l r : Trie) (h : ℕ) → 0 < length v → AreWordsOf v l r h → (h ≡ 12) × (v ≡ blocks 5 l ++ blocks 5 r)
words_known [] l r h some a = absurd (omega (arith, some))
words_known (w ∷ v) l r h some a = a

within_long : (v w : List ℕ) → 0 < length v → AreWithin v w → 0 < length w
within_long [] w some a = absurd (omega (arith, some))
within_long (x ∷ v) [] some a = absurd a
within_long (x ∷ v) (y ∷ w) some a = omega arith

pub joins_words : (t u : Trie) (k : ℕ) (v : List ℕ) (l r : Trie) (j : ℕ) (w : List ℕ) (m n : Trie) (h : ℕ) → t ≡ fork k v l r → u ≡ fork j w m n
    → IsShaped t h → IsShaped u h → 0 < length w → AreWithin w v → Joins t u h t
joins_words t u k v l r j w m n h e f s i some a =
    let p = words_known w m n h some (forked u j w m n h f i).words in
    let q = words_known v l r h (within_long w v some a) (forked t k v l r h e s).words in
    let all : AreWithin (blocks 5 m ++ blocks 5 n) (blocks 5 l ++ blocks 5 r) = subst (λ x. AreWithin x (blocks 5 l ++ blocks 5 r)) p.1 (subst (λ y. AreWithin w y) q.1 a) in
    let both : AreWithin (blocks 6 u) (blocks 6 t) =
    subst (λ x. AreWithin (blocks 6 x) (blocks 6 t)) (sym f) (subst (λ y. AreWithin (blocks 6 (fork j w m n)) (blocks 6 y)) (sym e) all) in
    (s, λ base. sym (blocks_there 6 h (omega (arith, q.0)) t u base s i both))

pub joins_there : (t u : Trie) (h : ℕ) → h ≤ 6 → IsShaped t h → IsShaped u h → bit_and (keys u) (keys t) ≡ keys u → Joins t u h t
joins_there t u h low s k e = (s, λ base. sym (all_there t u h base low s k e))

-- what is joined by halves
pub joins_halves : (t u : Trie) (l r m n x y j : Trie) (h : ℕ) → IsFork t h l r → IsFork u h m n → Joins l m (h - 1) x → Joins r n (h - 1) y → IsFork j h x y → Joins t u h j
joins_halves t u l r m n x y j h f g p q z = (
  z.0,
  λ base.
      let middle : ℕ = base + 2 ^ (h - 1) in
      let parts = by_parts middle (entries l (h - 1) base) (entries r (h - 1) middle) (entries m (h - 1) base) (entries n (h - 1) middle)
      (entries_below l (h - 1) base) (entries_from r (h - 1) middle) (entries_below m (h - 1) base) (entries_from n (h - 1) middle) in
      z.1 base
      ∙ (ap (λ v. v ++ entries y (h - 1) middle) (p.1 base)
      ∙ (ap (λ v. fold added (entries l (h - 1) base) (entries m (h - 1) base) ++ v) (q.1 middle)
      ∙ (sym parts ∙ (ap (λ v. fold added v (entries m (h - 1) base ++ entries n (h - 1) middle)) (sym (f.1 base)) ∙ ap (λ v. fold added (entries t h base) v) (sym (g.1 base)))))),
)

changed_by : (o left right : Option Trie) (t l r : Trie) (h : ℕ) → MatchOption o ((left ≡ None) × (right ≡ None)) (λ f. IsFork f h (unwrap_or left l) (unwrap_or right r)) → IsFork t h l r
    → IsFork (unwrap_or o t) h (unwrap_or left l) (unwrap_or right r)
changed_by (Some f) left right t l r h c i = c
changed_by None left right t l r h c i =
    subst (λ a. IsFork t h (unwrap_or a l) (unwrap_or right r)) (sym c.0) (subst (λ b. IsFork t h l (unwrap_or b r)) (sym c.1) i)

-- halves that may be changed
pub joins_changed : (o left right : Option Trie) (t u l r m n : Trie) (h : ℕ) → IsFork t h l r → IsFork u h m n → Joins l m (h - 1) (unwrap_or left l) → Joins r n (h - 1) (unwrap_or right r)
    → MatchOption o ((left ≡ None) × (right ≡ None)) (λ f. IsFork f h (unwrap_or left l) (unwrap_or right r)) → Joins t u h (unwrap_or o t)
joins_changed o left right t u l r m n h f g p q c =
    joins_halves t u l r m n (unwrap_or left l) (unwrap_or right r) (unwrap_or o t) h f g p q (changed_by o left right t l r h c f)

-- ---- one module alone

pub one_leaf : (t : Trie) (c : FrozenCells) (h base home : ℕ) → t ≡ leaf c → h ≡ 0 → base ≤ home → home < base + 2 ^ h → (IsShaped t h) × (entries t h base ≡ (home, c) ∷ [])
one_leaf t c h base home e z le less =
    let P : Trie → ℕ → Type 0 = λ u n. IsShaped u n × (entries u n base ≡ (home, c) ∷ []) in
    let less_zero : home < base + 2 ^ 0 = subst (λ n. home < base + 2 ^ n) z less in
    let same : base ≡ home = omega (arith, le, less_zero) in
    subst (λ u. P u h) (sym e) (subst (λ n. P (leaf c) n) (sym z) (tt, ap (λ n. (n, c) ∷ []) same))

pub one_left : (t l : Trie) (h base : ℕ) (p : ℕ × FrozenCells) → IsFork t h l bare → entries l (h - 1) base ≡ p ∷ [] → entries t h base ≡ p ∷ []
one_left t l h base p f e = f.1 base ∙ ap (λ z. z ++ []) e

pub one_right : (t r : Trie) (h base : ℕ) (p : ℕ × FrozenCells) → IsFork t h bare r → entries r (h - 1) (base + 2 ^ (h - 1)) ≡ p ∷ [] → entries t h base ≡ p ∷ []
one_right t r h base p f e = f.1 base ∙ e
