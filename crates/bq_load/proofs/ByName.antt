-- A map of the places of names, made from the last one on, and what is found by it.
use Rattle.std.proofs.Common.{◌≡◌, ◌∙◌, sym, ap, refl, ℕ, suc, ◌+◌, ◌-◌, ◌<◌, ◌≤◌, Bool, true, false, cond, List, [], ◌∷◌, drop, length, get_or, Option, Some, None, slice_get, arith}
use Rattle.std.specs.Prelude.{if◌then◌else◌, option_and_then}
use Rattle.std.specs.Ordering.{nat_cmp}
use Rattle.std.specs.Borrow.{Bor}
use Rattle.std.specs.Str.{bytes_eq}
use Rattle.std.specs.List.{position_from}
use Rattle.std.specs.Cmp.Lexicographic.{slice_cmp}
use Rattle.std.specs.BTreeMap.{is_at, Updates}
use Rattle.std.specs.Map.{lookup}
use Rattle.std.proofs.lemmas.Cmp.{nat_list_eq_equiv}
use Rattle.std.proofs.lemmas.List.{at_drop_more, at_drop_all, get_or_default}
use Rattle.std.proofs.lemmas.Map.Text.{btree_map_updates_str}
use Rattle.bq_resolve_scope.specs.Names.{Name}
use Rattle.bq_value.specs.Datum.{Datum}
use Rattle.bq_load.specs.Places.{Places, place_in, HasPlaces}
use Rattle.bq_load.specs.Imports.{value_named}

-- past the last name an empty map has all of them
pub none_after : (ns : List Name) (j : ℕ) (m : Places) → length ns ≤ j → m.entries ≡ [] → HasPlaces j (drop j ns) m
none_after ns j m past empty name =
    ap (λ es. lookup (is_at (λ k. slice_cmp nat_cmp name k.now)) es) empty
    ∙ sym (at_drop_all (λ qs. position_from (bytes_eq name) j qs) ns j past)

with_name : (i : ℕ) (k : Bor (List ℕ)) (rest : List Name) (m n : Places) (name : Name) → Updates (λ x y. slice_cmp nat_cmp x.now y.now) m n k (Some i) → place_in m name ≡ position_from (bytes_eq name) (i + 1) rest → place_in n name ≡ position_from (bytes_eq name) i (k.now ∷ rest)
with_name i k rest m n name updates has =
    btree_map_updates_str k.now m n (Some i) updates name
    ∙ (ap (λ b. cond b (Some i) (place_in m name)) (nat_list_eq_equiv.symm k.now name) ∙ ap (cond (bytes_eq name k.now) (Some i)) has)

-- a name before those that have their places
pub named_before : (ns : List Name) (j : ℕ) (d : Name) (k : Bor (List ℕ)) (m n : Places) → 0 < j → j ≤ length ns → k.now ≡ get_or ns (j - 1) d → Updates (λ x y. slice_cmp nat_cmp x.now y.now) m n k (Some (j - 1)) → HasPlaces j (drop j ns) m → HasPlaces (j - 1) (drop (j - 1) ns) n
named_before ns j d k m n some within is updates has name =
    let next : j - 1 + 1 ≡ j = omega (arith, some) in
    let first : k.now ≡ get_or ns (j - 1) k.now = is ∙ get_or_default ns (j - 1) d k.now (omega (arith, some, within)) in
    let split : drop (j - 1) ns ≡ k.now ∷ drop j ns = at_drop_more (λ qs. qs) ns (j - 1) k.now (omega (arith, some, within)) ∙ (ap (λ q. q ∷ drop (j - 1 + 1) ns) (sym first) ∙ ap (λ i. k.now ∷ drop i ns) next) in
    rw split (with_name (j - 1) k (drop j ns) m n name updates (rw next (has name)))

-- ---- the value in the place of a name

nothing_named : (name : Name) (ns : List Name) → value_named name ns [] ≡ None
unfolding value_named
nothing_named name [] = refl
nothing_named name (n ∷ ns) = refl

by_nothing : (b : Bool) (g : ℕ → Option Datum) (i : ℕ) (o : Option ℕ) → g i ≡ None → option_and_then g o ≡ None → option_and_then g (cond b (Some i) o) ≡ None
by_nothing true g i o here after = here
by_nothing false g i o here after = after

by_value : (b : Bool) (g : ℕ → Option Datum) (i : ℕ) (v : Datum) (o : Option ℕ) (w : Option Datum) → g i ≡ Some v → option_and_then g o ≡ w → option_and_then g (cond b (Some i) o) ≡ (if b then Some v else w)
by_value true g i v o w here after = here
by_value false g i v o w here after = after

plain : (i : ℕ) → i ≡ i + 0
plain i = omega arith

moved : (i k : ℕ) → i + 1 + k ≡ i + suc k
moved i k = omega arith

first : (k : ℕ) → 0 + k ≡ k
first k = omega arith

-- where these are the values from a place on
value_from : (name : Name) (g : ℕ → Option Datum) (i : ℕ) (ns : List Name) (vs : List Datum) → ((k : ℕ) → g (i + k) ≡ slice_get vs k) → option_and_then g (position_from (bytes_eq name) i ns) ≡ value_named name ns vs
unfolding value_named
value_from name g i [] vs are = refl
value_from name g i (n ∷ ns) [] are =
    by_nothing (bytes_eq name n) g i (position_from (bytes_eq name) (i + 1) ns) (ap g (plain i) ∙ are 0)
    (value_from name g (i + 1) ns [] (λ k. ap g (moved i k) ∙ are (suc k)) ∙ nothing_named name ns)
value_from name g i (n ∷ ns) (v ∷ vs) are =
    by_value (bytes_eq name n) g i v (position_from (bytes_eq name) (i + 1) ns) (value_named name ns vs) (ap g (plain i) ∙ are 0)
    (value_from name g (i + 1) ns vs (λ k. ap g (moved i k) ∙ are (suc k)))

pub value_at_place : (name : Name) (ns : List Name) (vs : List Datum) (m : Places) → HasPlaces 0 ns m → option_and_then (slice_get vs) (place_in m name) ≡ value_named name ns vs
value_at_place name ns vs m has = ap (option_and_then (slice_get vs)) (has name) ∙ value_from name (slice_get vs) 0 ns vs (λ k. ap (slice_get vs) (first k))
