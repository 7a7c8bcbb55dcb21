-- Names beside attributes are a list of named attributes: what look-ups of a name and of a place answer in both.
use Rattle.std.proofs.Common.{◌≡◌, ◌∙◌, ◌||◌, ℕ, zero, suc, Bool, true, false, cond, List, [], ◌∷◌, ◌++◌, length, position, Option, Some, None, is_some, slice_get, refl, sym, ap, bytes_eq, arith}
use Rattle.std.specs.List.{list_any, zip}
use Rattle.std.specs.Map.{lookup}
use Rattle.std.specs.Option.{option_and_then, option_map}
use Rattle.bq_base_texts.proofs.Positions.{some_is, position_cons}
use Rattle.bq_value_datum.specs.declared.attribute.Attribute.{Attribute}
use Rattle.bq_value_datum.specs.Class.{Class, has_attribute}

abbrev Names : Type 0
Names = List (List ℕ)

pub as_many : (ns : Names) (vs : List Attribute) → length ns ≡ length vs → length (zip ns vs) ≡ length vs
as_many [] [] h = refl
as_many [] (v ∷ vs) h = absurd (omega (arith, h))
as_many (n ∷ ns) [] h = absurd (omega (arith, h))
as_many (n ∷ ns) (v ∷ vs) h = ap suc (as_many ns vs (omega (arith, h)))

-- ---- by name

past : {A : Type 0} (o : Option ℕ) → option_and_then (slice_get {X = A} []) o ≡ None
past None = refl
past (Some i) = refl

by_test : {A : Type 0} (b : Bool) (v : A) (vs : List A) (o : Option ℕ) (w : Option A) → w ≡ option_and_then (slice_get vs) o → cond b (Some v) w ≡ option_and_then (slice_get (v ∷ vs)) (cond b (Some 0) (option_map suc o))
by_test true v vs o w h = refl
by_test false v vs None w h = h
by_test false v vs (Some i) w h = h

-- what a name finds is what is at its place
found : (p : List ℕ → Bool) (ns : Names) (vs : List Attribute) → lookup p (zip ns vs) ≡ option_and_then (slice_get vs) (position p ns)
found p [] vs = refl
found p (n ∷ ns) [] = sym (past (position p (n ∷ ns)))
found p (n ∷ ns) (v ∷ vs) = by_test (p n) v vs (position p ns) (lookup p (zip ns vs)) (found p ns vs) ∙ ap (option_and_then (slice_get (v ∷ vs))) (sym (position_cons p n ns))

pub unnamed : (name : List ℕ) (ns : Names) (vs : List Attribute) → position (bytes_eq name) ns ≡ None → lookup (bytes_eq name) (zip ns vs) ≡ None
unnamed name ns vs h = found (bytes_eq name) ns vs ∙ ap (option_and_then (slice_get vs)) h

pub named : (name : List ℕ) (ns : Names) (vs : List Attribute) (i : ℕ) → position (bytes_eq name) ns ≡ Some i → lookup (bytes_eq name) (zip ns vs) ≡ slice_get vs i
named name ns vs i h = found (bytes_eq name) ns vs ∙ ap (option_and_then (slice_get vs)) h

-- ---- by place

pub no_name_at : (ns : Names) (vs : List Attribute) (i : ℕ) → slice_get ns i ≡ None → slice_get (zip ns vs) i ≡ None
no_name_at [] vs i h = refl
no_name_at (n ∷ ns) [] i h = refl
no_name_at (n ∷ ns) (v ∷ vs) zero h = absurd (let no : ⊥ = cc in no)
no_name_at (n ∷ ns) (v ∷ vs) (suc i) h = no_name_at ns vs i h

pub no_attribute_at : (ns : Names) (vs : List Attribute) (i : ℕ) → slice_get vs i ≡ None → slice_get (zip ns vs) i ≡ None
no_attribute_at [] vs i h = refl
no_attribute_at (n ∷ ns) [] i h = refl
no_attribute_at (n ∷ ns) (v ∷ vs) zero h = absurd (let no : ⊥ = cc in no)
no_attribute_at (n ∷ ns) (v ∷ vs) (suc i) h = no_attribute_at ns vs i h

abbrev entry_of : List ℕ → Attribute → Option (List ℕ × Attribute)
entry_of n v = Some (n, v)

paired : (n m : List ℕ) (v u : Attribute) → Some n ≡ Some m → Some v ≡ Some u → entry_of n v ≡ entry_of m u
paired n m v u h e = ap (λ k. entry_of k v) (some_is n m h) ∙ ap (entry_of m) (some_is v u e)

pub both_at : (ns : Names) (vs : List Attribute) (i : ℕ) (n : List ℕ) (v : Attribute) → slice_get ns i ≡ Some n → slice_get vs i ≡ Some v → slice_get (zip ns vs) i ≡ entry_of n v
both_at [] vs i n v h e = absurd (let no : ⊥ = cc in no)
both_at (m ∷ ns) [] i n v h e = absurd (let no : ⊥ = cc in no)
both_at (m ∷ ns) (u ∷ vs) zero n v h e = paired m n u v h e
both_at (m ∷ ns) (u ∷ vs) (suc i) n v h e = both_at ns vs i n v h e

-- ---- one more

some_by : (b : Bool) (v : Attribute) (o : Option Attribute) → is_some (cond b (Some v) o) ≡ (b || is_some o)
some_by true v o = refl
some_by false v o = refl

pub has_name : (name : List ℕ) (ns : Names) (vs : List Attribute) → length ns ≡ length vs → has_attribute (zip ns vs) name ≡ list_any (bytes_eq name) ns
has_name name [] vs h = refl
has_name name (n ∷ ns) [] h = absurd (omega (arith, h))
has_name name (n ∷ ns) (v ∷ vs) h = some_by (bytes_eq name n) v (lookup (bytes_eq name) (zip ns vs)) ∙ ap (λ b. bytes_eq name n || b) (has_name name ns vs (omega (arith, h)))

pub pushed : (ns : Names) (vs : List Attribute) (n : List ℕ) (v : Attribute) → length ns ≡ length vs → zip (ns ++ n ∷ []) (vs ++ v ∷ []) ≡ zip ns vs ++ (n, v) ∷ []
pushed [] [] n v h = refl
pushed [] (u ∷ vs) n v h = absurd (omega (arith, h))
pushed (m ∷ ns) [] n v h = absurd (omega (arith, h))
pushed (m ∷ ns) (u ∷ vs) n v h = ap (λ es. (m, u) ∷ es) (pushed ns vs n v (omega (arith, h)))
