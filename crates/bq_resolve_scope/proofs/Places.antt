-- The place of a name among names.
use Rattle.std.proofs.Common.{◌≡◌, ◌<◌, ◌+◌, ℕ, suc, Bool, true, false, List, [], ◌∷◌, length, Option, Some, None, is_some, refl, sym, ◌∙◌, ap, cond, ◌||◌, not, nat_lt, bytes_eq, slice_get, arith}
use Rattle.std.specs.List.{position, position_or_len}
use Rattle.std.specs.Option.{option_map}
use Rattle.std.proofs.lemmas.Slice.Eq.{bytes_eq-Decides}
use Rattle.std.proofs.lemmas.Option.{slice_get_within}
use Rattle.bq_resolve_scope.specs.Names.{Name, has, place_among}

pub same_name : (name own : Name) → bytes_eq name own ≡ true → own ≡ name
same_name name own h = sym ((bytes_eq-Decides name own).0 h)

absent_by : (t : Bool) (rest : Bool) (o : Option ℕ) → (t || rest) ≡ false → (rest ≡ false → o ≡ None) → cond t (Some 0) (option_map suc o) ≡ None
absent_by true rest o h inner = cc
absent_by false rest o h inner = rw (inner h) refl

-- what isn't there has no place
pub absent : (name : Name) (names : List Name) → has names name ≡ false → place_among name names ≡ None
unfolding place_among
absent name [] h = refl
absent name (x ∷ xs) h = absent_by (bytes_eq name x) (has xs name) (place_among name xs) h (absent name xs)

unplaced_by : (t : Bool) (rest : Bool) (o : Option ℕ) → cond t (Some 0) (option_map suc o) ≡ None → (o ≡ None → rest ≡ false) → (t || rest) ≡ false
unplaced_by true rest o h inner = cc
unplaced_by false rest None h inner = inner refl
unplaced_by false rest (Some i) h inner = cc

-- what has no place isn't there
pub unplaced : (name : Name) (names : List Name) → place_among name names ≡ None → has names name ≡ false
unfolding place_among
unplaced name [] h = refl
unplaced name (x ∷ xs) h = unplaced_by (bytes_eq name x) (has xs name) (place_among name xs) h (unplaced name xs)

next_by : (o : Option ℕ) (i : ℕ) → option_map suc o ≡ Some i → (j : ℕ) × (o ≡ Some j) × (i ≡ suc j)
next_by None i h = absurd (let no : ⊥ = cc in no)
next_by (Some j) i h = (j, refl, cc)

placed_by : (t : Bool) (name x : Name) (xs : List Name) (o : Option ℕ) (i : ℕ) → bytes_eq name x ≡ t → cond t (Some 0) (option_map suc o) ≡ Some i
    → ((j : ℕ) → o ≡ Some j → slice_get xs j ≡ Some name) → slice_get (x ∷ xs) i ≡ Some name
placed_by true name x xs o i e h inner = let zeroth : i ≡ 0 = cc in rw zeroth (ap Some (same_name name x e))
placed_by false name x xs o i e h inner = let n = next_by o i h in rw n.2 (inner n.0 n.1)

-- at a name's place stands the name
pub placed : (name : Name) (names : List Name) (i : ℕ) → place_among name names ≡ Some i → slice_get names i ≡ Some name
unfolding place_among
placed name [] i h = cc
placed name (x ∷ xs) i h = placed_by (bytes_eq name x) name x xs (place_among name xs) i refl h (placed name xs)

-- a name's place is one of those of the names
pub within : (name : Name) (names : List Name) (i : ℕ) → place_among name names ≡ Some i → i < length names
within name names i h = slice_get_within names i name (placed name names i h)

there_by : (t : Bool) (rest : Bool) (o : Option ℕ) → (t || rest) ≡ true → (rest ≡ true → (i : ℕ) × (o ≡ Some i))
    → (i : ℕ) × (cond t (Some 0) (option_map suc o) ≡ Some i)
there_by true rest o h inner = (0, refl)
there_by false rest o h inner = let j = inner h in (suc j.0, rw j.1 refl)

-- what is there has a place
pub there : (name : Name) (names : List Name) → has names name ≡ true → (i : ℕ) × (place_among name names ≡ Some i)
unfolding place_among
there name [] h = absurd (let no : ⊥ = cc in no)
there name (x ∷ xs) h = there_by (bytes_eq name x) (has xs name) (place_among name xs) h (there name xs)

has_place_by : (t rest : Bool) (o : Option ℕ) → is_some o ≡ rest → is_some (cond t (Some 0) (option_map suc o)) ≡ (t || rest)
has_place_by true rest o h = refl
has_place_by false rest None h = h
has_place_by false rest (Some i) h = h

-- what has a place is there, and nothing else
pub has_place : (name : Name) (names : List Name) → is_some (place_among name names) ≡ has names name
unfolding place_among
has_place name [] = refl
has_place name (x ∷ xs) = has_place_by (bytes_eq name x) (has xs name) (place_among name xs) (has_place name xs)

-- ---- the place as a set answers it

as_place : ℕ → ℕ → Option ℕ
as_place k n = cond (nat_lt k n) (Some k) None

first_of : (x : Name) (xs : List Name) → as_place 0 (length (x ∷ xs)) ≡ Some 0
unfolding as_place
first_of x xs = grind arith

next_of : (x : Name) (xs : List Name) (k : ℕ) → as_place (1 + k) (length (x ∷ xs)) ≡ option_map suc (as_place k (length xs))
unfolding as_place
next_of x xs k = grind arith

position_by : (t : Bool) (x : Name) (xs : List Name) (k : ℕ) (o : Option ℕ) → as_place k (length xs) ≡ o
    → as_place (cond (not t) (1 + k) 0) (length (x ∷ xs)) ≡ cond t (Some 0) (option_map suc o)
position_by true x xs k o h = first_of x xs
position_by false x xs k o h = next_of x xs k ∙ ap (option_map suc) h

pub place_position : (name : Name) (names : List Name) → position (bytes_eq name) names ≡ place_among name names
unfolding place_among as_place
place_position name [] = refl
place_position name (x ∷ xs) = position_by (bytes_eq name x) x xs (position_or_len (bytes_eq name) xs) (place_among name xs) (place_position name xs)
