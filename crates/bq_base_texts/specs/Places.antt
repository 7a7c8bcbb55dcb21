-- Where names are found.
use Rattle.std.specs.Prelude.{◌≡◌, ◌⊎◌, ℕ, List, Option, Some, Vec, slice_get}
use Rattle.std.specs.BTreeMap.{BTreeMap, get, get_by}
use Rattle.std.specs.Cmp.Lexicographic.{slice_cmp}
use Rattle.std.specs.Hash.FoldHasher.{initial, write, finish}
use Rattle.std.specs.Ordering.{nat_cmp}
use Rattle.std.specs.declared.alloc.Global.{Global}

-- the hash of a name: what a hasher gives that begins anew and takes the name's bytes
abbrev pub hash_of : List ℕ → ℕ
hash_of name = finish (write initial name)

-- the place of the first name of the same hash
abbrev pub first_place : BTreeMap ℕ ℕ → List ℕ → Option ℕ
first_place by_hash name = get nat_cmp by_hash (hash_of name)

-- the place of a name whose hash collides with that of another
abbrev pub colliding_place : BTreeMap (Vec ℕ Global) ℕ → List ℕ → Option ℕ
colliding_place colliding name = get_by (λ k. slice_cmp nat_cmp name k.items) colliding

-- one of the maps has this place for the name
abbrev pub HasPlace : BTreeMap ℕ ℕ → BTreeMap (Vec ℕ Global) ℕ → List ℕ → ℕ → Type 0
HasPlace by_hash colliding name i = (first_place by_hash name ≡ Some i) ⊎ (colliding_place colliding name ≡ Some i)

-- no name is there twice, and each has its place
pub record ArePlaced (names : List (List ℕ)) (by_hash : BTreeMap ℕ ℕ) (colliding : BTreeMap (Vec ℕ Global) ℕ) : Type 0 where
  pub differ : (i j : ℕ) (name : List ℕ) → slice_get names i ≡ Some name → slice_get names j ≡ Some name → i ≡ j
  pub placed : (i : ℕ) (name : List ℕ) → slice_get names i ≡ Some name → HasPlace by_hash colliding name i

-- the name isn't at this place
abbrev pub Lacks : List (List ℕ) → Option ℕ → List ℕ → Type 0
Lacks names place name = (i : ℕ) → place ≡ Some i → slice_get names i ≡ Some name → ⊥

-- no name is there twice, and this one is at one of two places, if it is there
abbrev pub AreCandidates : List (List ℕ) → List ℕ → Option ℕ → Option ℕ → Type 0
AreCandidates names name first late =
    ((i j : ℕ) (other : List ℕ) → slice_get names i ≡ Some other → slice_get names j ≡ Some other → i ≡ j)
    × ((i : ℕ) → slice_get names i ≡ Some name → (first ≡ Some i) ⊎ (late ≡ Some i))
