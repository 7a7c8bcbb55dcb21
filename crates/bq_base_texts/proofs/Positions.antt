-- The place of an element of a list in which all differ.
use Rattle.std.proofs.Common.{◌≡◌, ◌∙◌, ◌<◌, ◌≤◌, ◌+◌, ◌⊎◌, ◌||◌, ℕ, suc, zero, Bool, true, false, cond, not, nat_lt, List, [], ◌∷◌, ◌++◌, length, take, get_or, Option, Some, None, is_some, slice_get, position, refl, sym, ap, inl, inr, arith}
use Rattle.std.specs.Bool.{Decides}
use Rattle.std.specs.List.{position_or_len, list_any}
use Rattle.std.specs.Option.{option_map}
use Rattle.std.proofs.lemmas.Bool.{cases_Bool}
use Rattle.std.proofs.lemmas.Bool.Decides.{nat_tests}
use Rattle.std.proofs.lemmas.List.Folds.{list_any_at}
use Rattle.std.proofs.lemmas.List.Quantifiers.{position-Some}
use Rattle.std.proofs.lemmas.List.Sums.{position_or_len_is, fails_before_first}
use Rattle.std.proofs.lemmas.Option.{slice_get-get_or, slice_get_within, get_or_from_slice_get}

pub true_false : true ≡ false → ⊥
true_false e = cc

neither : (a b : Bool) → a ≡ false → b ≡ false → (a || b) ≡ false
neither false b h g = g
neither true b h g = cc

pub some_is : {A : Type 0} (x y : A) → Some x ≡ Some y → x ≡ y
some_is x y e = cc

pub none_some : {A : Type 0} (x : A) → None ≡ Some x → ⊥
none_some x e = cc

some_at : (n m b : ℕ) → n ≡ b → nat_lt b m ≡ true → cond (nat_lt n m) (Some n) None ≡ Some b
some_at n m b e h = rw (e, h) refl

none_at : (n m : ℕ) → n ≡ m → nat_lt m m ≡ false → cond (nat_lt n m) (Some n) None ≡ None
none_at n m e h = rw (e, h) refl

past_by : (b : Bool) (n : ℕ) → cond b (Some n) None ≡ None → b ≡ false
past_by true n h = cc
past_by false n h = refl

at_place : ℕ → ℕ → Option ℕ
at_place k n = cond (nat_lt k n) (Some k) None

module _ {X : Type 0} where
  position_is : (p : X → Bool) (xs : List X) (i : ℕ) (d : X) → i < length xs → ((k : ℕ) → k < i → p (get_or xs k d) ≡ false) → p (get_or xs i d) ≡ true → position p xs ≡ Some i
  position_is p xs i d within before here =
      let first : position_or_len p xs ≡ i = position_or_len_is p xs i d (omega (arith, within)) before (λ h. here) in
      let room : nat_lt i (length xs) ≡ true = grind (arith, nat_tests) in
      some_at (position_or_len p xs) (length xs) i first room

  position_none : (p : X → Bool) (xs : List X) (d : X) → ((k : ℕ) → k < length xs → p (get_or xs k d) ≡ false) → position p xs ≡ None
  position_none p xs d fails =
      let all : position_or_len p xs ≡ length xs = position_or_len_is p xs (length xs) d (omega arith) fails (λ h. absurd (omega (arith, h))) in
      let room : nat_lt (length xs) (length xs) ≡ false = grind (arith, nat_tests) in
      none_at (position_or_len p xs) (length xs) all room

  fails_at : (p : X → Bool) (xs : List X) (k : ℕ) (d : X) → position p xs ≡ None → k < length xs → p (get_or xs k d) ≡ false
  fails_at p xs k d h within =
      let past : nat_lt (position_or_len p xs) (length xs) ≡ false = past_by (nat_lt (position_or_len p xs) (length xs)) (position_or_len p xs) h in
      let before : k < position_or_len p xs = grind (arith, nat_tests) in
      fails_before_first p xs k d before

  first_of : (x : X) (xs : List X) → at_place 0 (length (x ∷ xs)) ≡ Some 0
  unfolding at_place
  first_of x xs = grind arith

  next_of : (x : X) (xs : List X) (k : ℕ) → at_place (1 + k) (length (x ∷ xs)) ≡ option_map suc (at_place k (length xs))
  unfolding at_place
  next_of x xs k = grind arith

  cons_by : (b : Bool) (x : X) (xs : List X) (k : ℕ) → at_place (cond (not b) (1 + k) 0) (length (x ∷ xs)) ≡ cond b (Some 0) (option_map suc (at_place k (length xs)))
  cons_by true x xs k = first_of x xs
  cons_by false x xs k = next_of x xs k

  -- the first place is that of the head, or one after the first place in the tail
  pub position_cons : (p : X → Bool) (x : X) (xs : List X) → position p (x ∷ xs) ≡ cond (p x) (Some 0) (option_map suc (position p xs))
  unfolding at_place
  position_cons p x xs = cons_by (p x) x xs (position_or_len p xs)

  all_fail : (p : X → Bool) (xs : List X) (d : X) → ((k : ℕ) → k < length xs → p (get_or xs k d) ≡ false) → list_any p xs ≡ false
  all_fail p [] d fails = refl
  all_fail p (x ∷ xs) d fails = neither (p x) (list_any p xs) (fails 0 (omega arith)) (all_fail p xs d (λ k h. fails (suc k) (omega (arith, h))))

  has_by : (p : X → Bool) (xs : List X) (d : X) (o : Option ℕ) → position p xs ≡ o → is_some o ≡ list_any p xs
  has_by p xs d None at = sym (all_fail p xs d (λ k h. fails_at p xs k d at h))
  has_by p xs d (Some i) at = let f = position-Some p xs i d at in sym (list_any_at p xs i d f.0 f.1)

  -- what has a place is there, and nothing else
  pub has_place : (p : X → Bool) (xs : List X) (d : X) → is_some (position p xs) ≡ list_any p xs
  has_place p xs d = has_by p xs d (position p xs) refl

  pub pushed_cases : (xs : List X) (x y : X) (i : ℕ) → slice_get (xs ++ x ∷ []) i ≡ Some y → (slice_get xs i ≡ Some y) ⊎ ((i ≡ length xs) × (x ≡ y))
  pushed_cases [] x y zero h = inr (refl, some_is x y h)
  pushed_cases [] x y (suc i) h = absurd (none_some y h)
  pushed_cases (z ∷ zs) x y zero h = inl h
  pushed_cases (z ∷ zs) x y (suc i) h = elim (pushed_cases zs x y i h) [
    | inl at ↦ inl at
    | inr last ↦ inr (ap suc last.0, last.1)
  ]

  pub taken_at : (n : ℕ) (xs : List X) (i : ℕ) (x : X) → slice_get (take n xs) i ≡ Some x → slice_get xs i ≡ Some x
  taken_at zero xs i x h = absurd (none_some x h)
  taken_at (suc n) [] i x h = absurd (none_some x h)
  taken_at (suc n) (y ∷ ys) zero x h = h
  taken_at (suc n) (y ∷ ys) (suc i) x h = taken_at n ys i x h

  -- none is there twice
  abbrev pub Differ : List X → Type 0
  Differ xs = (i j : ℕ) (x : X) → slice_get xs i ≡ Some x → slice_get xs j ≡ Some x → i ≡ j

module _ {X : Type 0} (same : X → X → Bool) (decides : (a b : X) → Decides (same a b) (a ≡ b)) where
  same_at : (xs : List X) (x : X) (k : ℕ) → k < length xs → same x (get_or xs k x) ≡ true → slice_get xs k ≡ Some x
  same_at xs x k within h = slice_get-get_or xs k x within ∙ ap Some (sym ((decides x (get_or xs k x)).0 h))

  here_at : (xs : List X) (x : X) (i : ℕ) → slice_get xs i ≡ Some x → same x (get_or xs i x) ≡ true
  here_at xs x i is = (decides x (get_or xs i x)).1 (sym (get_or_from_slice_get xs i x x is))

  -- the first place is the only one
  pub position_at : (xs : List X) (x : X) (i : ℕ) → Differ xs → slice_get xs i ≡ Some x → position (same x) xs ≡ Some i
  position_at xs x i differ is =
      let within : i < length xs = slice_get_within xs i x is in
      let before : (k : ℕ) → k < i → same x (get_or xs k x) ≡ false =
      λ k b.
      elim (cases_Bool (same x (get_or xs k x))) [
        | inl h ↦ let e : k ≡ i = differ k i x (same_at xs x k (omega (arith, b, within)) h) is in absurd (omega (arith, e, b))
        | inr h ↦ h
      ] in
      position_is (same x) xs i x within before (here_at xs x i is)

  pub position_nowhere : (xs : List X) (x : X) → ((i : ℕ) → slice_get xs i ≡ Some x → ⊥) → position (same x) xs ≡ None
  position_nowhere xs x lacks =
      position_none (same x) xs x
      (λ k within.
      elim (cases_Bool (same x (get_or xs k x))) [
        | inl h ↦ absurd (lacks k (same_at xs x k within h))
        | inr h ↦ h
      ])

  pub absent_at : (xs : List X) (x : X) (i : ℕ) → list_any (same x) xs ≡ false → slice_get xs i ≡ Some x → ⊥
  absent_at xs x i new is = true_false (sym (list_any_at (same x) xs i x (slice_get_within xs i x is) (here_at xs x i is)) ∙ new)

  differ_by : (xs : List X) (x y : X) (i j : ℕ) → list_any (same x) xs ≡ false → slice_get xs i ≡ Some y → x ≡ y → ⊥
  differ_by xs x y i j new at e = absent_at xs x i new (at ∙ ap Some (sym e))

  -- one that isn't there differs from the others
  pub one_more_differs : (xs : List X) (x : X) → Differ xs → list_any (same x) xs ≡ false → Differ (xs ++ x ∷ [])
  one_more_differs xs x differ new i j y a b = elim (pushed_cases xs x y i a) [
    | inl old ↦ elim (pushed_cases xs x y j b) [
      | inl other ↦ differ i j y old other
      | inr last ↦ absurd (differ_by xs x y i j new old last.1)
    ]
    | inr last ↦ elim (pushed_cases xs x y j b) [
      | inl other ↦ absurd (differ_by xs x y j i new other last.1)
      | inr both ↦ last.0 ∙ sym both.0
    ]
  ]
