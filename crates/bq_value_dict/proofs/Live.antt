-- The pairs at the places of a dict that aren't empty.
use Rattle.std.proofs.Common.{◌≡◌, ◌∙◌, ap, sym, refl, cond, not, ℕ, zero, suc, ◌+◌, ◌<◌, arith, Bool, true, false, List, [], ◌∷◌, Option, Some, None, is_some, length, drop, slice_get, filter, map}
use Rattle.std.specs.Prelude.{nat_lt, position}
use Rattle.std.specs.Map.{lookup}
use Rattle.std.specs.Option.{option_flatten}
use Rattle.std.specs.List.{IsDistinct, AllByRecursion, position_or_len}
use Rattle.std.proofs.lemmas.Map.Keys.{IsDistinct-head, IsDistinct-tail}
use Rattle.indexmap.specs.IndexMap.{insert_entry, set_value_at}
use Rattle.bq_value_datum.specs.Datum.{Datum}
use Rattle.bq_value_datum.specs.Same.{same}
use Rattle.bq_value_datum.specs.SameLaws.{same-true}
use Rattle.bq_value_dict.specs.Pairs.{found, put, without, HasNoKeyTwice}
use Rattle.bq_value_dict.specs.Places.{Places, live, is_empty}

-- the keys of all places
abbrev pub keys_of : Places → List Datum
keys_of ps = map (λ p. p.0) ps

-- the place of a key, or the length
abbrev pub first : Datum → Places → ℕ
first k [] = 0
first k (p ∷ ps) = cond (same k p.0) 0 (suc (first k ps))

none_among : (j : Datum) (ps : Places) → AllByRecursion (λ y. same j y ≡ false) (keys_of ps) → found j (live ps) ≡ None
none_among j [] h = refl
none_among j ((k, Some v) ∷ ps) h = ap (λ b. cond b (Some v) (found j (live ps))) h.0 ∙ none_among j ps h.1
none_among j ((k, None) ∷ ps) h = none_among j ps h.1

found_by : (k j : Datum) (ps : Places) (b : Bool) → same k j ≡ b → AllByRecursion (λ y. same j y ≡ false) (keys_of ps) → found k (live ps) ≡ option_flatten (lookup (same k) ps)
    → found k (live ps) ≡ option_flatten (cond b (Some None) (lookup (same k) ps))
found_by k j ps true e head h = ap (λ i. found i (live ps)) (same-true k j e) ∙ none_among j ps head
found_by k j ps false e head h = h

some_by : (k : Datum) (v : Datum) (ps : Places) (b : Bool) → found k (live ps) ≡ option_flatten (lookup (same k) ps) → cond b (Some v) (found k (live ps)) ≡ option_flatten (cond b (Some (Some v)) (lookup (same k) ps))
some_by k v ps true h = refl
some_by k v ps false h = h

-- a key has what is at its place
pub found_live : (k : Datum) (ps : Places) → IsDistinct same (keys_of ps) → found k (live ps) ≡ option_flatten (lookup (same k) ps)
found_live k [] once = refl
found_live k ((j, Some v) ∷ ps) once = some_by k v ps (same k j) (found_live k ps (IsDistinct-tail same j (keys_of ps) once))
found_live k ((j, None) ∷ ps) once = found_by k j ps (same k j) refl (IsDistinct-head same j (keys_of ps) once) (found_live k ps (IsDistinct-tail same j (keys_of ps) once))

pub once_live : (ps : Places) → IsDistinct same (keys_of ps) → HasNoKeyTwice (live ps)
once_live [] h = tt
once_live ((k, Some v) ∷ ps) h = (none_among k ps (IsDistinct-head same k (keys_of ps) h), once_live ps (IsDistinct-tail same k (keys_of ps) h))
once_live ((k, None) ∷ ps) h = once_live ps (IsDistinct-tail same k (keys_of ps) h)

-- ---- a pair is put

before_by : (k : Datum) (ps : Places) (b : Bool) → is_empty (cond b (Some None) (lookup (same k) ps)) ≡ false → (is_empty (lookup (same k) ps) ≡ false → found k (live ps) ≡ option_flatten (lookup (same k) ps))
    → found k (live ps) ≡ option_flatten (cond b (Some None) (lookup (same k) ps))
before_by k ps true h more = absurd (cc)
before_by k ps false h more = more h

before_some : (k v : Datum) (ps : Places) (b : Bool) → is_empty (cond b (Some (Some v)) (lookup (same k) ps)) ≡ false → (is_empty (lookup (same k) ps) ≡ false → found k (live ps) ≡ option_flatten (lookup (same k) ps))
    → cond b (Some v) (found k (live ps)) ≡ option_flatten (cond b (Some (Some v)) (lookup (same k) ps))
before_some k v ps true h more = refl
before_some k v ps false h more = more h

-- so it is, whatever stands twice, where the place isn't empty
pub found_before : (k : Datum) (ps : Places) → is_empty (lookup (same k) ps) ≡ false → found k (live ps) ≡ option_flatten (lookup (same k) ps)
found_before k [] h = refl
found_before k ((j, Some v) ∷ ps) h = before_some k v ps (same k j) h (found_before k ps)
found_before k ((j, None) ∷ ps) h = before_by k ps (same k j) h (found_before k ps)

put_some : (k v j w : Datum) (ps : Places) (b : Bool) → is_empty (cond b (Some (Some w)) (lookup (same k) ps)) ≡ false
    → (is_empty (lookup (same k) ps) ≡ false → live (insert_entry same ps k (Some v)) ≡ put k v (live ps))
    → live (cond b ((j, Some v) ∷ ps) ((j, Some w) ∷ insert_entry same ps k (Some v))) ≡ cond b ((j, v) ∷ live ps) ((j, w) ∷ put k v (live ps))
put_some k v j w ps true h more = refl
put_some k v j w ps false h more = ap (λ r. (j, w) ∷ r) (more h)

put_none : (k v j : Datum) (ps : Places) (b : Bool) → is_empty (cond b (Some None) (lookup (same k) ps)) ≡ false
    → (is_empty (lookup (same k) ps) ≡ false → live (insert_entry same ps k (Some v)) ≡ put k v (live ps))
    → live (cond b ((j, Some v) ∷ ps) ((j, None) ∷ insert_entry same ps k (Some v))) ≡ put k v (live ps)
put_none k v j ps true h more = absurd (cc)
put_none k v j ps false h more = more h

pub put_live : (k v : Datum) (ps : Places) → is_empty (lookup (same k) ps) ≡ false → live (insert_entry same ps k (Some v)) ≡ put k v (live ps)
put_live k v [] h = refl
put_live k v ((j, Some w) ∷ ps) h = put_some k v j w ps (same k j) h (put_live k v ps)
put_live k v ((j, None) ∷ ps) h = put_none k v j ps (same k j) h (put_live k v ps)

-- ---- a pair is taken out

gone_some : (k j w : Datum) (ps : Places) (o : Option Datum) (b : Bool) → cond b (Some (Some w)) (lookup (same k) ps) ≡ Some o → is_some o ≡ true
    → (lookup (same k) ps ≡ Some o → live (set_value_at ps (first k ps) None) ≡ without k (live ps))
    → live (set_value_at ((j, Some w) ∷ ps) (cond b 0 (suc (first k ps))) None) ≡ cond b (live ps) ((j, w) ∷ without k (live ps))
gone_some k j w ps o true h there more = refl
gone_some k j w ps o false h there more = ap (λ r. (j, w) ∷ r) (more h)

gone_none : (k j : Datum) (ps : Places) (o : Option Datum) (b : Bool) → cond b (Some None) (lookup (same k) ps) ≡ Some o → is_some o ≡ true
    → (lookup (same k) ps ≡ Some o → live (set_value_at ps (first k ps) None) ≡ without k (live ps))
    → live (set_value_at ((j, None) ∷ ps) (cond b 0 (suc (first k ps))) None) ≡ without k (live ps)
gone_none k j ps None b h there more = absurd (cc)
gone_none k j ps (Some v) true h there more = absurd (cc)
gone_none k j ps (Some v) false h there more = more h

pub without_live : (k : Datum) (ps : Places) (o : Option Datum) → lookup (same k) ps ≡ Some o → is_some o ≡ true → live (set_value_at ps (first k ps) None) ≡ without k (live ps)
without_live k [] o h there = absurd (cc)
without_live k ((j, Some w) ∷ ps) o h there = gone_some k j w ps o (same k j) h there (λ e. without_live k ps o e there)
without_live k ((j, None) ∷ ps) o h there = gone_none k j ps o (same k j) h there (λ e. without_live k ps o e there)

pub none_of : {A : Type 0} (o : Option A) → is_some o ≡ false → o ≡ None
none_of (Some x) h = absurd (cc)
none_of None h = refl

pub same_some : {A : Type 0} (x y : A) → Some x ≡ Some y → x ≡ y
same_some x y e = cc

-- ---- the place of a key

first_by : (b : Bool) (m n : ℕ) → m ≡ n → cond b 0 (suc m) ≡ cond (not b) (1 + n) 0
first_by true m n e = refl
first_by false m n e = omega arith

pub first_is : (k : Datum) (ps : Places) → first k ps ≡ position_or_len (same k) (keys_of ps)
first_is k [] = refl
first_is k (p ∷ ps) = first_by (same k p.0) _ _ (first_is k ps)

place_by : (b : Bool) (n i : ℕ) → cond b (Some n) None ≡ Some i → n ≡ i
place_by true n i e = cc
place_by false n i e = absurd (cc)

pub at_first : (k : Datum) (ps : Places) (i : ℕ) → Some i ≡ position (same k) (keys_of ps) → first k ps ≡ i
at_first k ps i e = first_is k ps ∙ place_by (nat_lt (position_or_len (same k) (keys_of ps)) (length (keys_of ps))) _ i (sym e)

-- ---- the pair at an index

-- the index of the place of the pair at an index
abbrev pub place_at : Places → ℕ → ℕ
place_at [] i = i
place_at ((k, Some v) ∷ ps) zero = zero
place_at ((k, Some v) ∷ ps) (suc i) = suc (place_at ps i)
place_at ((k, None) ∷ ps) i = suc (place_at ps i)

pub record Nth (ps : Places) (i : ℕ) : Type 0 where
  pub key : Datum
  pub value : Datum
  pub at : slice_get ps (place_at ps i) ≡ Some (key, Some value)
  pub rest : drop i (live ps) ≡ (key, value) ∷ drop (suc i) (live ps)

pub nth : (ps : Places) (i : ℕ) → i < length (live ps) → Nth ps i
nth [] i h = absurd (omega (arith, h))
nth ((k, Some v) ∷ ps) zero h = record { key = k; value = v; at = refl; rest = refl }
nth ((k, Some v) ∷ ps) (suc i) h =
    let n = nth ps i (omega (arith, h)) in
    record { key = n.key; value = n.value; at = n.at; rest = n.rest }
nth ((k, None) ∷ ps) i h =
    let n = nth ps i h in
    record { key = n.key; value = n.value; at = n.at; rest = n.rest }

-- ---- the empty places are taken out

abbrev pub is_there : Datum × Option Datum → Bool
is_there p = is_some p.1

pub live_kept : (ps : Places) → live (filter is_there ps) ≡ live ps
live_kept [] = refl
live_kept ((k, Some v) ∷ ps) = ap (λ r. (k, v) ∷ r) (live_kept ps)
live_kept ((k, None) ∷ ps) = live_kept ps

kept_by : (k v : Datum) (ps : Places) (b : Bool) → is_empty (lookup (same k) ps) ≡ false → is_empty (cond b (Some (Some v)) (lookup (same k) ps)) ≡ false
kept_by k v ps true h = refl
kept_by k v ps false h = h

pub none_kept : (k : Datum) (ps : Places) → is_empty (lookup (same k) (filter is_there ps)) ≡ false
none_kept k [] = refl
none_kept k ((j, Some v) ∷ ps) = kept_by k v (filter is_there ps) (same k j) (none_kept k ps)
none_kept k ((j, None) ∷ ps) = none_kept k ps
