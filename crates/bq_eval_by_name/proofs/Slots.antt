-- Slots of names among blocks: two names never share one.
use Rattle.std.proofs.Common.{◌≡◌, ◌≢◌, ◌<◌, ◌≤◌, ◌+◌, ℕ, suc, Bool, true, false, cond, ◌||◌, List, [], ◌∷◌, length, Option, Some, None, is_some, bytes_eq, slice_get, refl, sym, ap, ◌∙◌, arith}
use Rattle.std.specs.Option.{option_map}
use Rattle.std.proofs.lemmas.Slice.Eq.{bytes_eq-Decides}
use Rattle.std.proofs.lemmas.Option.{slice_get_within}
use Rattle.bq_resolve_scope.specs.Names.{Name, has, place_among}
use Rattle.bq_resolve_scope.specs.Scope.{BlockParts, or_else, slot_in, slot_of}
use Rattle.bq_eval_by_name.specs.Shows.{Below, Nested, IsFree}

next_by : (o : Option ℕ) (i : ℕ) → option_map suc o ≡ Some i → (j : ℕ) × (o ≡ Some j) × (i ≡ suc j)
next_by None i h = absurd (let no : ⊥ = cc in no)
next_by (Some j) i h = (j, refl, cc)

placed_by : (t : Bool) (name x : Name) (xs : List Name) (o : Option ℕ) (i : ℕ) → bytes_eq name x ≡ t → cond t (Some 0) (option_map suc o) ≡ Some i
    → ((j : ℕ) → o ≡ Some j → slice_get xs j ≡ Some name) → slice_get (x ∷ xs) i ≡ Some name
placed_by true name x xs o i e h inner = let zeroth : i ≡ 0 = cc in rw zeroth (ap Some (sym ((bytes_eq-Decides name x).0 e)))
placed_by false name x xs o i e h inner = let n = next_by o i h in rw n.2 (inner n.0 n.1)

-- at a name's place stands the name
placed : (name : Name) (names : List Name) (i : ℕ) → place_among name names ≡ Some i → slice_get names i ≡ Some name
unfolding place_among
placed name [] i h = cc
placed name (x ∷ xs) i h = placed_by (bytes_eq name x) name x xs (place_among name xs) i refl h (placed name xs)

-- names of one place are one name
pub one_place : (names : List Name) (a b : Name) (i : ℕ) → place_among a names ≡ Some i → place_among b names ≡ Some i → a ≡ b
one_place names a b i g h =
    let x : slice_get names i ≡ Some a = placed a names i g in
    let y : slice_get names i ≡ Some b = placed b names i h in
    let z : Some a ≡ Some b = sym x ∙ y in cc

has_place_by : (t rest : Bool) (o : Option ℕ) → is_some o ≡ rest → is_some (cond t (Some 0) (option_map suc o)) ≡ (t || rest)
has_place_by true rest o h = refl
has_place_by false rest None h = h
has_place_by false rest (Some i) h = h

-- what has a place is there, and nothing else
has_place : (name : Name) (names : List Name) → is_some (place_among name names) ≡ has names name
unfolding place_among
has_place name [] = refl
has_place name (x ∷ xs) = has_place_by (bytes_eq name x) (has xs name) (place_among name xs) (has_place name xs)

held_by : (block : BlockParts) (o : Option ℕ) → is_some (option_map (λ i. block.base + i) o) ≡ is_some o
held_by block None = refl
held_by block (Some i) = refl

-- a name has a slot in a block that holds it, and in no other
pub held : (block : BlockParts) (name : Name) → is_some (slot_in block name) ≡ has block.names name
unfolding slot_in
held block name = held_by block (place_among name block.names) ∙ has_place name block.names

slot_by : (block : BlockParts) (o : Option ℕ) (slot : ℕ) → option_map (λ i. block.base + i) o ≡ Some slot → (i : ℕ) × (o ≡ Some i) × (slot ≡ block.base + i)
slot_by block None slot h = absurd (let no : ⊥ = cc in no)
slot_by block (Some i) slot h = (i, refl, cc)

slot_is : (block : BlockParts) (name : Name) (slot : ℕ) → slot_in block name ≡ Some slot → (i : ℕ) × (place_among name block.names ≡ Some i) × (slot ≡ block.base + i)
unfolding slot_in
slot_is block name slot h = slot_by block (place_among name block.names) slot h

one_slot : (block : BlockParts) (a b : Name) (slot : ℕ) → slot_in block a ≡ Some slot → slot_in block b ≡ Some slot → a ≡ b
one_slot block a b slot g h =
    let x = slot_is block a slot g in
    let y = slot_is block b slot h in
    let e : slot ≡ block.base + x.0 = x.2 in
    let d : slot ≡ block.base + y.0 = y.2 in
    let n : x.0 ≡ y.0 = omega arith in
    one_place block.names a b y.0 (x.1 ∙ ap (λ i. Some i) n) y.1

pub slot_from : (block : BlockParts) (name : Name) (slot : ℕ) → slot_in block name ≡ Some slot → block.base ≤ slot
slot_from block name slot h = let x = slot_is block name slot h in let e : slot ≡ block.base + x.0 = x.2 in omega arith

slot_to : (block : BlockParts) (name : Name) (slot : ℕ) → slot_in block name ≡ Some slot → slot < block.base + length block.names
slot_to block name slot h =
    let x = slot_is block name slot h in
    let e : slot ≡ block.base + x.0 = x.2 in
    let l : x.0 < length block.names = slice_get_within block.names x.0 name (placed name block.names x.0 x.1) in omega arith

below_by : (block : BlockParts) (name : Name) (slot k : ℕ) (o rest : Option ℕ) → slot_in block name ≡ o → block.base + length block.names ≤ k → (rest ≡ Some slot → slot < k) → or_else o rest ≡ Some slot → slot < k
below_by block name slot k None rest d b outer h = outer h
below_by block name slot k (Some i) rest d b outer h =
    let e : i ≡ slot = cc in
    let l : slot < block.base + length block.names = slot_to block name slot (d ∙ ap (λ j. Some j) e) in omega arith

-- a slot of blocks that come before comes before
slot_below : (blocks : List BlockParts) (name : Name) (slot k : ℕ) → Below blocks k → slot_of blocks name ≡ Some slot → slot < k
unfolding slot_of
slot_below [] name slot k b h = absurd (let no : ⊥ = cc in no)
slot_below (x ∷ xs) name slot k b h = below_by x name slot k (slot_in x name) (slot_of xs name) refl b.0 (slot_below xs name slot k b.1) h

one_name_by : (block : BlockParts) (blocks : List BlockParts) (a b : Name) (slot : ℕ) (o p : Option ℕ) → slot_in block a ≡ o → slot_in block b ≡ p → Below blocks block.base
    → (slot_of blocks a ≡ Some slot → slot_of blocks b ≡ Some slot → a ≡ b) → or_else o (slot_of blocks a) ≡ Some slot → or_else p (slot_of blocks b) ≡ Some slot → a ≡ b
one_name_by block blocks a b slot None None d e w outer g h = outer g h
one_name_by block blocks a b slot (Some i) (Some j) d e w outer g h = one_slot block a b slot (d ∙ g) (e ∙ h)
one_name_by block blocks a b slot (Some i) None d e w outer g h =
    let l : block.base ≤ slot = slot_from block a slot (d ∙ g) in
    let k : slot < block.base = slot_below blocks b slot block.base w h in absurd (let no : ⊥ = omega arith in no)
one_name_by block blocks a b slot None (Some j) d e w outer g h =
    let l : block.base ≤ slot = slot_from block b slot (e ∙ h) in
    let k : slot < block.base = slot_below blocks a slot block.base w g in absurd (let no : ⊥ = omega arith in no)

-- names of one slot are one name
pub one_name : (blocks : List BlockParts) → Nested blocks → (a b : Name) (slot : ℕ) → slot_of blocks a ≡ Some slot → slot_of blocks b ≡ Some slot → a ≡ b
unfolding slot_of
one_name [] w a b slot g h = absurd (let no : ⊥ = cc in no)
one_name (x ∷ xs) w a b slot g h = one_name_by x xs a b slot (slot_in x a) (slot_in x b) refl refl w.0 (one_name xs w.1 a b slot) g h

taken_by : (block : BlockParts) (name : Name) (slot : ℕ) (o rest : Option ℕ) → slot_in block name ≡ o → slot_in block name ≢ Some slot → (rest ≡ Some slot → ⊥) → or_else o rest ≡ Some slot → ⊥
taken_by block name slot None rest d free outer h = outer h
taken_by block name slot (Some i) rest d free outer h = free (d ∙ h)

-- a name's slot is not free
pub taken : (blocks : List BlockParts) (name : Name) (slot : ℕ) → IsFree blocks slot → slot_of blocks name ≡ Some slot → ⊥
unfolding slot_of
taken [] name slot free h = let no : ⊥ = cc in no
taken (x ∷ xs) name slot free h = taken_by x name slot (slot_in x name) (slot_of xs name) refl (free.0 name) (taken xs name slot free.1) h

-- what comes after the slots of all blocks is free
pub free_after : (blocks : List BlockParts) (slot k : ℕ) → Below blocks k → k ≤ slot → IsFree blocks slot
free_after [] slot k b h = tt
free_after (x ∷ xs) slot k b h = (
  λ name e. let l : slot < x.base + length x.names = slot_to x name slot e in let a : x.base + length x.names ≤ k = b.0 in let no : ⊥ = omega arith in no,
  free_after xs slot k b.1 h,
)
