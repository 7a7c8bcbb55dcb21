-- The index that `list.index` answers.
use Rattle.std.proofs.Common.{◌≡◌, ◌∙◌, refl, sym, ap, subst, ℕ, zero, suc, ◌+◌, ◌-◌, ◌<◌, ◌≤◌, ℤ, pos, Bool, true, false, cond, List, [], ◌∷◌, take, drop, length, get_or, Option, Some, None, Ok, Err, arith, length-drop}
use Rattle.std.specs.Prelude.{min, nat_le, slice_get}
use Rattle.std.proofs.Math.Nat.{min-le_left, min-le_right}
use Rattle.std.proofs.lemmas.List.{get_or-take, get_or-drop, length-take}
use Rattle.std.proofs.lemmas.Option.{slice_get_within, get_or_from_slice_get, slice_get-get_or}
use Rattle.bq_base.specs.declared.fault.EvalFault.TheVariants.{TooLong}
use Rattle.bq_value.specs.Datum.{Datum, int}
use Rattle.bq_value.specs.Looked.{Looked}
use Rattle.bq_builtin_machine.specs.Action.{done, following, given}
use Rattle.bq_builtin_machine.specs.Cells.{content}
use Rattle.bq_builtin_machine.specs.Machine.{looked_equal, with_steps, after_walk}
use Rattle.bq_builtin_machine.specs.State.{State}
use Rattle.bq_builtin_strings.specs.Length.{max_len}
use Rattle.bq_builtin_strings.specs.Place.{bound}
use Rattle.bq_builtin_methods.specs.Arguments.{one_to_three, optional_integer}
use Rattle.bq_builtin_methods.specs.List.{list_in, find, place_value, index}
use Rattle.bq_builtin_machine.specs.Answer.{and_then}
use Rattle.bq_builtin_methods.specs.Search.{if_unequal, first_equal, found_between}
use Rattle.bq_builtin_laws.specs.Collections.Laws.{IsList}
use Rattle.bq_builtin_laws.specs.Collections.Looks.{IsCompared, IsFirstPlace, IsFirstIndex}

-- ---- the elements of a slice

module _ (xs : List Datum) (low high : ℕ) where
  abbrev slice : List Datum
  slice = take (high - low) (drop low xs)

  slice_size : (length slice ≤ high - low) × (length slice ≤ length xs - low)
  slice_size =
      let size : length slice ≡ min (high - low) (length (drop low xs)) = length-take (high - low) (drop low xs) in
      (rw size (min-le_left (high - low) (length (drop low xs))), omega (arith, size, min-le_right (high - low) (length (drop low xs)), length-drop low xs))

  element_at : (k : ℕ) (x : Datum) → k < length slice → get_or slice k x ≡ get_or xs (low + k) x
  element_at k x within = get_or-take (high - low) (drop low xs) k x (omega (arith, within, slice_size.0)) ∙ get_or-drop low xs k x

  outward : (k : ℕ) (x : Datum) → slice_get slice k ≡ Some x → slice_get xs (low + k) ≡ Some x
  outward k x e =
      let within : k < length slice = slice_get_within slice k x e in
      slice_get-get_or xs (low + k) x (omega (arith, within, slice_size.1)) ∙ ap Some (sym (element_at k x within) ∙ get_or_from_slice_get slice k x x e)

  inward : (k : ℕ) (x : Datum) → k < length slice → slice_get xs (low + k) ≡ Some x → slice_get slice k ≡ Some x
  inward k x within e = slice_get-get_or slice k x within ∙ ap Some (element_at k x within ∙ get_or_from_slice_get xs (low + k) x x e)

-- ---- the first element that is equal

module _ (s : State) (v : Datum) where
  record IsFound (xs : List Datum) (base at : ℕ) : Type 0 where
    offset : ℕ
    is : at ≡ base + offset
    element : Datum
    there : slice_get xs offset ≡ Some element
    equal : IsCompared s element v true
    before : (k : ℕ) (x : Datum) → k < offset → slice_get xs k ≡ Some x → IsCompared s x v false

  abbrev place_of : Looked (Option ℕ) → Option ℕ
  place_of (Ok r) = r.0
  place_of (Err why) = None

  some_same : (a b : ℕ) → Some a ≡ Some b → a ≡ b
  some_same a b e = cc

  found_here : (x : Datum) (xs : List Datum) (n left base at : ℕ) → looked_equal s.store n x v ≡ Ok (true, left) → base ≡ at → IsFound (x ∷ xs) base at
  found_here x xs n left base at e same = record {
    offset = 0;
    is = omega (arith, same);
    element = x;
    there = refl;
    equal = record { steps = n; left = left; by = e };
    before = λ k y none is. absurd (omega (arith, none));
  }

  found_later : (x : Datum) (xs : List Datum) (n left base at : ℕ) → looked_equal s.store n x v ≡ Ok (false, left) → IsFound xs (base + 1) at → IsFound (x ∷ xs) base at
  found_later x xs n left base at e f = record {
    offset = suc f.offset;
    is = omega (arith, f.is);
    element = f.element;
    there = f.there;
    equal = f.equal;
    before = before;
  }
    where
      before : (k : ℕ) (y : Datum) → k < suc f.offset → slice_get (x ∷ xs) k ≡ Some y → IsCompared s y v false
      before zero y within is = let same : x ≡ y = cc in subst (λ (z : Datum). IsCompared s z v false) same (record { steps = n; left = left; by = e })
      before (suc k) y within is = f.before k y (omega (arith, within)) is

  first_found : (xs : List Datum) (n base at left : ℕ) → first_equal s.store n base v xs ≡ Ok (Some at, left) → IsFound xs base at
  first_found [] n base at left h = absurd (let e : None ≡ Some at = ap place_of h in cc)
  first_found (x ∷ xs) n base at left h = by (looked_equal s.store n x v) refl h (λ m later. first_found xs m (base + 1) at left later)
    where
      by : (r : Looked Bool) → looked_equal s.store n x v ≡ r → if_unequal r base (λ m. first_equal s.store m (base + 1) v xs) ≡ Ok (Some at, left)
          → ((m : ℕ) → first_equal s.store m (base + 1) v xs ≡ Ok (Some at, left) → IsFound xs (base + 1) at) → IsFound (x ∷ xs) base at
      by (Err why) e g later = absurd (cc)
      by (Ok (true, m)) e g later = found_here x xs n m base at e (some_same base at (ap place_of g))
      by (Ok (false, m)) e g later = found_later x xs n m base at e (later m g)

  first_place : (xs : List Datum) (low high n at left : ℕ) → first_equal s.store n low v (take (high - low) (drop low xs)) ≡ Ok (Some at, left) → IsFirstPlace xs v low high (int (pos at)) s
  first_place xs low high n at left h =
      let f = first_found (take (high - low) (drop low xs)) n low at left h in
      let within : f.offset < length (take (high - low) (drop low xs)) = slice_get_within (take (high - low) (drop low xs)) f.offset f.element f.there in
      record {
        place = at;
        is = refl;
        from = omega (arith, f.is);
        below = omega (arith, f.is, within, (slice_size xs low high).0);
        element = f.element;
        there = ap (slice_get xs) f.is ∙ outward xs low high f.offset f.element f.there;
        equal = f.equal;
        before = before f within;
      }
    where
      before : (f : IsFound (take (high - low) (drop low xs)) low at) → f.offset < length (take (high - low) (drop low xs)) → (k : ℕ) (x : Datum) → low ≤ k → k < at → slice_get xs k ≡ Some x → IsCompared s x v false
      before f within k x from below is =
          let same : k ≡ low + (k - low) = omega (arith, from) in
          f.before (k - low) x (omega (arith, f.is, from, below)) (inward xs low high (k - low) x (omega (arith, f.is, from, below, within)) (ap (slice_get xs) (sym same) ∙ is))

-- ---- the method

place_by : (b : Bool) (at : ℕ) (answer : Datum) (now t : State) → given (and_then (cond b (Ok at) (Err TooLong)) (λ n. Ok (int (pos n)))) now ≡ done answer t → int (pos at) ≡ answer
place_by true at answer now t h = cc
place_by false at answer now t h = absurd (cc)

module _ (home number : ℕ) (xs : List Datum) (v : Datum) (start end : Option ℤ) (answer : Datum) (s t : State) (known : IsList s home number xs) where
  by_look : (r : Looked (Option ℕ)) → found_between s.store s.steps xs v start end ≡ r → following (after_walk r s) (λ at. given (place_value at)) ≡ done answer t → IsFirstIndex xs v start end answer s
  unfolding found_between place_value
  by_look (Err why) e h = absurd (cc)
  by_look (Ok (None, n)) e h = absurd (cc)
  by_look (Ok (Some at, n)) e h =
      subst (λ (a : Datum). IsFirstIndex xs v start end a s) (place_by (nat_le at max_len) at answer (with_steps n s) t h)
      (first_place s v xs (bound (length xs) 0 start) (bound (length xs) (length xs) end) s.steps at n e)

  pub first_index : (args : List Datum) (o p : Option Datum) → one_to_three args ≡ Ok (v, (o, p)) → optional_integer o ≡ Ok start → optional_integer p ≡ Ok end → index home number args s ≡ done answer t
      → IsFirstIndex xs v start end answer s
  unfolding index find list_in content
  first_index args o p asked from to h =
      let e : index home number args s ≡ following (after_walk (found_between s.store s.steps xs v start end) s) (λ at. given (place_value at)) = rw (asked, from, to, known) refl in
      by_look (found_between s.store s.steps xs v start end) refl (sym e ∙ h)
