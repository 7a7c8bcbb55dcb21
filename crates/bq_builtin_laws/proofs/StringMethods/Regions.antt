-- Places in a region of a string.
use Rattle.std.proofs.Common.{◌≡◌, ◌∙◌, refl, sym, ap, subst, ℕ, ◌+◌, ◌-◌, ◌≤◌, ℤ, pos, negsuc, Bool, true, false, cond, List, ◌++◌, length, take, drop, Option, Some, None, Ok, Err, arith, append_assoc, length-append, length-drop, length-take-le}
use Rattle.std.specs.Prelude.{nat_lt, ◌^◌}
use Rattle.std.proofs.Math.Nat.{min-le_left}
use Rattle.std.proofs.Math.Seq.{take-append-add}
use Rattle.std.proofs.lemmas.List.{take-append-drop, drop-append-le, length-take}
use Rattle.bq_base.specs.declared.fault.EvalFault.TheVariants.{BadValue, Overflow}
use Rattle.bq_value.specs.Datum.{Datum, int}
use Rattle.bq_builtin_strings.specs.Place.{bound}
use Rattle.bq_builtin_strings.specs.Search.{StandsAt, IsLeastPlace, IsGreatestPlace, find, rfind}
use Rattle.bq_builtin_strings.proofs.Places.{find_least, rfind_greatest}
use Rattle.bq_builtin_string_methods.specs.Argument.{part_of}
use Rattle.bq_builtin_string_methods.specs.Searches.{number, place_or_less, place_or_fault, said, search}
use Rattle.bq_builtin_string_methods.specs.declared.searches.SearchMethod.{SearchMethod}
use Rattle.bq_builtin_string_methods.specs.declared.searches.SearchMethod.TheVariants.{Find, Rfind, Index, Rindex}
use Rattle.bq_builtin_laws.specs.StringMethods.Regions.{Asks, StandsBetween, IsFirstInRegion, IsLastInRegion, IsNotInRegion}

-- ---- a place of the part is one of the string

module _ (sub text : List ℕ) (low high : ℕ) (fits : low ≤ length text) where
  abbrev part : List ℕ
  part = part_of text low high

  abbrev rest : List ℕ
  rest = drop (high - low) (drop low text)

  outside : (before after : List ℕ) → part ≡ before ++ (sub ++ after) → text ≡ (take low text ++ before) ++ (sub ++ (after ++ rest))
  outside before after is =
      sym (take-append-drop low text)
      ∙ (ap (λ (t : List ℕ). take low text ++ t) (sym (take-append-drop (high - low) (drop low text)) ∙ (ap (λ (t : List ℕ). t ++ rest) is ∙ (append_assoc before (sub ++ after) rest ∙ ap (λ (t : List ℕ). before ++ t) (append_assoc sub after rest))))
      ∙ sym (append_assoc (take low text) before (sub ++ (after ++ rest))))

  part_fits : length part ≤ high - low
  part_fits = rw (length-take (high - low) (drop low text)) (min-le_left (high - low) (length (drop low text)))

  outward : (k : ℕ) → StandsAt sub part k → StandsBetween sub text low high (low + k)
  outward k s =
      let front : length (take low text) ≡ low = length-take-le low text fits in
      let size : length part ≡ k + (length sub + length s.after) = ap length s.whole ∙ (length-append s.before (sub ++ s.after) ∙ (ap (λ (n : ℕ). n + length (sub ++ s.after)) s.place ∙ ap (λ (n : ℕ). k + n) (length-append sub s.after))) in
      record {
        there = record {
          before = take low text ++ s.before;
          after = s.after ++ rest;
          whole = outside s.before s.after s.whole;
          place = length-append (take low text) s.before ∙ (ap (λ (n : ℕ). n + length s.before) front ∙ ap (λ (n : ℕ). low + n) s.place);
        };
        after_start = omega arith;
        before_end = omega (arith, size, part_fits);
      }

  inward : (at : ℕ) → StandsBetween sub text low high at → StandsAt sub part (at - low)
  inward at w =
      let s = w.there in
      let within : low ≤ length s.before = omega (arith, s.place, w.after_start) in
      let before = drop low s.before in
      let size : length before ≡ at - low = length-drop low s.before ∙ ap (λ (n : ℕ). n - low) s.place in
      let x : List ℕ = before ++ sub in
      let x_size : length x ≡ (at - low) + length sub = length-append before sub ∙ ap (λ (n : ℕ). n + length sub) size in
      let left : ℕ = high - low - length x in
      let cut : high - low ≡ length x + left = omega (arith, x_size, w.after_start, w.before_end) in
      let behind : drop low text ≡ x ++ s.after = ap (drop low) s.whole ∙ (drop-append-le low s.before (sub ++ s.after) within ∙ sym (append_assoc before sub s.after)) in
      record {
        before = before;
        after = take left s.after;
        whole = ap (take (high - low)) behind ∙ (ap (λ (n : ℕ). take n (x ++ s.after)) cut ∙ (take-append-add x s.after left ∙ append_assoc before sub (take left s.after)));
        place = size;
      }

-- ---- the start of a region lies in the string

start_fits : (len : ℕ) (start : Option ℤ) → bound len 0 start ≤ len
start_fits len None = omega arith
start_fits len (Some (pos k)) = min-le_left len k
start_fits len (Some (negsuc k)) = omega arith

-- ---- answers

number_by : (b : Bool) (n at : ℕ) → cond b (Ok (int (pos n))) (Err Overflow) ≡ Ok (int (pos at)) → n ≡ at
number_by true n at e = cc
number_by false n at e = absurd (cc)

number_is : (n at : ℕ) → number n ≡ Ok (int (pos at)) → n ≡ at
number_is n at e = number_by (nat_lt n (2 ^ 63)) n at e

-- a place is not -1, and no fault of a search
not_less_by : (b : Bool) (n k : ℕ) → cond b (Ok (int (pos n))) (Err Overflow) ≡ Ok (int (negsuc k)) → ⊥
not_less_by true n k e = cc
not_less_by false n k e = cc

not_bad_by : (b : Bool) (n : ℕ) → cond b (Ok (int (pos n))) (Err Overflow) ≡ Err BadValue → ⊥
not_bad_by true n e = cc
not_bad_by false n e = cc

-- P says which place of the part was found, and Q which place of the string that is
module _ (P : Option ℕ → Type 0) (Q : ℕ → Type 0) (N : Type 0) (low : ℕ) (some : (k : ℕ) → P (Some k) → Q (low + k)) (none : P None → N) where
  at_place : (o : Option ℕ) → P o → (at : ℕ) → place_or_less low o ≡ Ok (int (pos at)) → Q at
  at_place None h at e = absurd (cc)
  at_place (Some k) h at e = subst Q (number_is (low + k) at e) (some k h)

  nowhere : (o : Option ℕ) → P o → (k : ℕ) → place_or_less low o ≡ Ok (int (negsuc k)) → N
  nowhere None h k e = none h
  nowhere (Some j) h k e = absurd (not_less_by (nat_lt (low + j) (2 ^ 63)) (low + j) k e)

  place_or_bad : (o : Option ℕ) → P o → (at : ℕ) → place_or_fault low o ≡ Ok (int (pos at)) → Q at
  place_or_bad None h at e = absurd (cc)
  place_or_bad (Some k) h at e = subst Q (number_is (low + k) at e) (some k h)

  fault : (o : Option ℕ) → P o → place_or_fault low o ≡ Err BadValue → N
  fault None h e = none h
  fault (Some k) h e = absurd (not_bad_by (nat_lt (low + k) (2 ^ 63)) (low + k) e)

-- ---- the methods

module _ (sub text : List ℕ) (vs : List Datum) (start end : Option ℤ) (asked : Asks vs sub start end) where
  abbrev low : ℕ
  low = bound (length text) 0 start

  abbrev high : ℕ
  high = bound (length text) (length text) end

  abbrev region : List ℕ
  region = part_of text low high

  searched : (m : SearchMethod) → search m text vs ≡ said m sub low region
  unfolding search
  searched m = rw (asked.what, asked.from, asked.to) refl

  fits : low ≤ length text
  fits = start_fits (length text) start

  first : (k : ℕ) → IsLeastPlace sub region (Some k) → IsFirstInRegion sub text start end (low + k)
  first k h = (outward sub text low high fits k h.0, λ j before w. h.1 (j - low) (omega (arith, before, w.after_start)) (inward sub text low high fits j w))

  last : (k : ℕ) → IsGreatestPlace sub region (Some k) → IsLastInRegion sub text start end (low + k)
  last k h = (outward sub text low high fits k h.0, λ j after w. h.1 (j - low) (omega (arith, after, w.after_start)) (inward sub text low high fits j w))

  not_in : ((k : ℕ) → StandsAt sub region k → ⊥) → IsNotInRegion sub text start end
  not_in h = λ j w. h (j - low) (inward sub text low high fits j w)

  abbrev Least : Option ℕ → Type 0
  Least = IsLeastPlace sub region

  abbrev Greatest : Option ℕ → Type 0
  Greatest = IsGreatestPlace sub region

  pub found : (at : ℕ) → search Find text vs ≡ Ok (int (pos at)) → IsFirstInRegion sub text start end at
  found at e = at_place Least (IsFirstInRegion sub text start end) (IsNotInRegion sub text start end) low first not_in (find sub region) (find_least sub region) at (sym (searched Find) ∙ e)

  pub rfound : (at : ℕ) → search Rfind text vs ≡ Ok (int (pos at)) → IsLastInRegion sub text start end at
  rfound at e = at_place Greatest (IsLastInRegion sub text start end) (IsNotInRegion sub text start end) low last not_in (rfind sub region) (rfind_greatest sub region) at (sym (searched Rfind) ∙ e)

  pub index_found : (at : ℕ) → search Index text vs ≡ Ok (int (pos at)) → IsFirstInRegion sub text start end at
  index_found at e = place_or_bad Least (IsFirstInRegion sub text start end) (IsNotInRegion sub text start end) low first not_in (find sub region) (find_least sub region) at (sym (searched Index) ∙ e)

  pub rindex_found : (at : ℕ) → search Rindex text vs ≡ Ok (int (pos at)) → IsLastInRegion sub text start end at
  rindex_found at e = place_or_bad Greatest (IsLastInRegion sub text start end) (IsNotInRegion sub text start end) low last not_in (rfind sub region) (rfind_greatest sub region) at (sym (searched Rindex) ∙ e)

  pub not_found : (k : ℕ) → search Find text vs ≡ Ok (int (negsuc k)) → IsNotInRegion sub text start end
  not_found k e = nowhere Least (IsFirstInRegion sub text start end) (IsNotInRegion sub text start end) low first not_in (find sub region) (find_least sub region) k (sym (searched Find) ∙ e)

  pub not_rfound : (k : ℕ) → search Rfind text vs ≡ Ok (int (negsuc k)) → IsNotInRegion sub text start end
  not_rfound k e = nowhere Greatest (IsLastInRegion sub text start end) (IsNotInRegion sub text start end) low last not_in (rfind sub region) (rfind_greatest sub region) k (sym (searched Rfind) ∙ e)

  pub no_index : search Index text vs ≡ Err BadValue → IsNotInRegion sub text start end
  no_index e = fault Least (IsFirstInRegion sub text start end) (IsNotInRegion sub text start end) low first not_in (find sub region) (find_least sub region) (sym (searched Index) ∙ e)

  pub no_rindex : search Rindex text vs ≡ Err BadValue → IsNotInRegion sub text start end
  no_rindex e = fault Greatest (IsLastInRegion sub text start end) (IsNotInRegion sub text start end) low last not_in (rfind sub region) (rfind_greatest sub region) (sym (searched Rindex) ∙ e)
