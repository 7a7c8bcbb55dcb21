-- In stacked blocks two uses have one slot exactly where they are one use.
use Rattle.std.proofs.Common.{◌≡◌, ◌∙◌, ◌<◌, ◌≤◌, ℕ, zero, suc, ◌+◌, Bool, true, false, cond, List, [], ◌∷◌, length, Option, Some, None, slice_get, refl, sym, ap, arith, inl, inr, bytes_eq}
use Rattle.std.specs.Option.{option_map}
use Rattle.std.proofs.lemmas.Bool.{cases_eq, cases_lt}
use Rattle.std.proofs.lemmas.Slice.Eq.{bytes_eq-Decides}
use Rattle.bq_resolve_scope.specs.Names.{Name, place_among}
use Rattle.bq_resolve_scope.specs.Scope.{BlockParts}
use Rattle.bq_resolve_laws.specs.Resolution.{InOrder}
use Rattle.bq_resolve_laws.specs.Slots.Sharing.{AreShared}
use Rattle.bq_resolve_laws.specs.Slots.Uses.{Use}
use Rattle.bq_resolve_laws.proofs.Slots.Opened.{IsSlot, Stacked, block_at, ends_before}

-- ---- places

within_by : (t : Bool) (o : Option ℕ) (n i : ℕ) → cond t (Some 0) (option_map suc o) ≡ Some i → ((j : ℕ) → o ≡ Some j → j < n) → i < suc n
within_by true o n i h inner = let z : 0 ≡ i = cc in omega arith
within_by false None n i h inner = absurd (let no : ⊥ = cc in no)
within_by false (Some j) n i h inner = let z : suc j ≡ i = cc in let l : j < n = inner j refl in omega arith

place_within : (name : Name) (names : List Name) (i : ℕ) → place_among name names ≡ Some i → i < length names
unfolding place_among
place_within name [] i h = absurd (let no : ⊥ = cc in no)
place_within name (x ∷ xs) i h = within_by (bytes_eq name x) (place_among name xs) (length xs) i h (place_within name xs)

-- two names in one place are one name
one_by : (a b : Bool) (n m x : Name) (o p : Option ℕ) (i : ℕ) → bytes_eq n x ≡ a → bytes_eq m x ≡ b → cond a (Some 0) (option_map suc o) ≡ Some i → cond b (Some 0) (option_map suc p) ≡ Some i
    → ((j : ℕ) → o ≡ Some j → p ≡ Some j → n ≡ m) → n ≡ m
one_by true true n m x o p i e g h k inner = (bytes_eq-Decides n x).0 e ∙ sym ((bytes_eq-Decides m x).0 g)
one_by true false n m x o None i e g h k inner = absurd (let no : ⊥ = cc in no)
one_by true false n m x o (Some j) i e g h k inner = let z : 0 ≡ i = cc in let w : suc j ≡ i = cc in absurd (omega arith)
one_by false true n m x None p i e g h k inner = absurd (let no : ⊥ = cc in no)
one_by false true n m x (Some j) p i e g h k inner = let z : 0 ≡ i = cc in let w : suc j ≡ i = cc in absurd (omega arith)
one_by false false n m x None p i e g h k inner = absurd (let no : ⊥ = cc in no)
one_by false false n m x (Some j) None i e g h k inner = absurd (let no : ⊥ = cc in no)
one_by false false n m x (Some j) (Some l) i e g h k inner =
    let z : suc j ≡ i = cc in let w : suc l ≡ i = cc in let same : l ≡ j = omega arith in inner j refl (ap Some same)

one_name : (n m : Name) (names : List Name) (i : ℕ) → place_among n names ≡ Some i → place_among m names ≡ Some i → n ≡ m
unfolding place_among
one_name n m [] i h k = absurd (let no : ⊥ = cc in no)
one_name n m (x ∷ xs) i h k = one_by (bytes_eq n x) (bytes_eq m x) n m x (place_among n xs) (place_among m xs) i refl refl h k (one_name n m xs)

-- ---- two uses

some_is : {A : Type 0} {x y : A} → Some x ≡ Some y → x ≡ y
some_is e = cc

module _ (opened : List BlockParts) (to : ℕ) (stacked : Stacked 0 opened to) (u v : Use) (n m : ℕ) (one : IsSlot opened u n) (two : IsSlot opened v m) where
  -- one use has one slot
  pub one_slot : u ≡ v → n ≡ m
  one_slot is =
      let block : one.block ≡ two.block = some_is (sym one.opened_is ∙ (ap (λ (w : Use). block_at opened w.block) is ∙ two.opened_is)) in
      let place : one.place ≡ two.place = some_is (sym one.place_is ∙ ((λ i. place_among (is i).name (block i).names) ∙ two.place_is)) in
      one.slot_is ∙ ((λ i. (block i).base + place i) ∙ sym two.slot_is)

  first_ends : one.place < length one.block.names
  first_ends = place_within u.name one.block.names one.place one.place_is

  second_ends : two.place < length two.block.names
  second_ends = place_within v.name two.block.names two.place two.place_is

  -- .. and one slot is that of one use
  same_block : n ≡ m → u.block ≡ v.block → u ≡ v
  same_block is same =
      let block : one.block ≡ two.block = some_is (sym one.opened_is ∙ (ap (block_at opened) same ∙ two.opened_is)) in
      let base : one.block.base ≡ two.block.base = ap (λ (b : BlockParts). b.base) block in
      let place : two.place ≡ one.place = omega (arith, one.slot_is, two.slot_is, is, base) in
      let there : place_among v.name one.block.names ≡ Some one.place = ap (λ (b : BlockParts). place_among v.name b.names) block ∙ (two.place_is ∙ ap Some place) in
      let name : u.name ≡ v.name = one_name u.name v.name one.block.names one.place one.place_is there in
      λ i. record { block = same i; name = name i }

  apart : n ≡ m → u.block < v.block → ⊥
  apart is less =
      let ends : one.block.base + length one.block.names ≤ two.block.base = ends_before 0 to opened u.block v.block one.block two.block stacked one.opened_is two.opened_is less in
      omega (arith, first_ends, one.slot_is, two.slot_is, is, ends)

  apart_after : n ≡ m → v.block < u.block → ⊥
  apart_after is more =
      let ends : two.block.base + length two.block.names ≤ one.block.base = ends_before 0 to opened v.block u.block two.block one.block stacked two.opened_is one.opened_is more in
      omega (arith, second_ends, one.slot_is, two.slot_is, is, ends)

  pub one_use : n ≡ m → u ≡ v
  one_use is = elim (cases_eq u.block v.block) [
    | inl same ↦ same_block is same
    | inr other ↦ elim (cases_lt u.block v.block) [
      | inl less ↦ absurd (apart is less)
      | inr more ↦ absurd (apart_after is (omega (arith, more, other)))
    ]
  ]

-- ---- all uses

same_count : (opened : List BlockParts) (us : List Use) (ns : List ℕ) → InOrder (IsSlot opened) us ns → length ns ≡ length us
same_count opened [] [] h = refl
same_count opened [] (n ∷ ns) h = absurd h
same_count opened (u ∷ us) [] h = absurd h
same_count opened (u ∷ us) (n ∷ ns) h = ap suc (same_count opened us ns h.1)

-- the use in a place, with its slot
pub record At (opened : List BlockParts) (us : List Use) (ns : List ℕ) (i : ℕ) : Type 0 where
  found : Use
  slot : ℕ
  found_is : slice_get us i ≡ Some found
  slot_is : slice_get ns i ≡ Some slot
  is : IsSlot opened found slot

at_place : (opened : List BlockParts) (us : List Use) (ns : List ℕ) → InOrder (IsSlot opened) us ns → (i : ℕ) → i < length us → At opened us ns i
at_place opened [] ns h i l = absurd (omega arith)
at_place opened (u ∷ us) [] h i l = absurd h
at_place opened (u ∷ us) (n ∷ ns) h zero l = record { found = u; slot = n; found_is = refl; slot_is = refl; is = h.0 }
at_place opened (u ∷ us) (n ∷ ns) h (suc i) l =
    let a = at_place opened us ns h.1 i (omega (arith, l)) in
    record { found = a.found; slot = a.slot; found_is = a.found_is; slot_is = a.slot_is; is = a.is }

pub are_shared : (opened : List BlockParts) (to : ℕ) → Stacked 0 opened to → (us : List Use) (ns : List ℕ) → InOrder (IsSlot opened) us ns → AreShared ns us
are_shared opened to stacked us ns h = record {
  count = same_count opened us ns h;
  share = λ i j k l.
      let a = at_place opened us ns h i k in
      let b = at_place opened us ns h j l in (
        λ is. a.found_is ∙ (ap Some (one_use opened to stacked a.found b.found a.slot b.slot a.is b.is (some_is (sym a.slot_is ∙ (is ∙ b.slot_is)))) ∙ sym b.found_is),
        λ is. a.slot_is ∙ (ap Some (one_slot opened to stacked a.found b.found a.slot b.slot a.is b.is (some_is (sym a.found_is ∙ (is ∙ b.found_is)))) ∙ sym b.slot_is),
      );
}
