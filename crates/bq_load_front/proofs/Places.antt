-- The files that loads name, and the places of these.
use Rattle.std.proofs.Common.{◌≡◌, ◌∙◌, ◌<◌, ◌≤◌, ◌+◌, ℕ, zero, suc, Bool, true, false, not, List, [], ◌∷◌, ◌++◌, Option, None, Some, length, map, take, get_or, slice_get, position, refl, sym, ap, subst, inl, inr}
use Rattle.std.specs.Prelude.{option_and_then, option_copied, MatchOption}
use Rattle.std.specs.Borrow.{Bor}
use Rattle.std.proofs.lemmas.Bool.{cases_Bool}
use Rattle.std.proofs.lemmas.List.{map_push, take_all, take_more}
use Rattle.std.proofs.lemmas.Map.Views.{Contains-from_any}
use Rattle.std.specs.List.{Contains, IsDistinct, filter_map, cons_option}
use Rattle.std.proofs.lemmas.Option.{slice_get-get_or, slice_get_past, slice_get_read}
use Rattle.bq_label.specs.Label.{LabelParts}
use Rattle.bq_label_set.specs.Labels.{same_label, same_label-Decides, has_label, with_label, with_labels}
use Rattle.bq_label_set.proofs.Added.{known_label, new_label, numbers_stay, each_label_once, with_labels-append}
use Rattle.bq_label_set.proofs.Numbers.{the_number}
use Rattle.bq_load_front.specs.NamedFiles.{labels_at, AreNamed, place_named}

heads : {X : Type 0} (x y : X) (xs ys : List X) → x ∷ xs ≡ y ∷ ys → x ≡ y
heads x y xs ys e = cc

tails : {X : Type 0} (x y : X) (xs ys : List X) → x ∷ xs ≡ y ∷ ys → xs ≡ ys
tails x y xs ys e = cc

no_head : {X : Type 0} (x : X) (xs : List X) → [] ≡ x ∷ xs → ⊥
no_head x xs e = cc

next_taken : {X : Type 0} (xs : List X) (i : ℕ) (x : X) → i < length xs → x ≡ get_or xs i x → take (i + 1) xs ≡ take i xs ++ x ∷ []
next_taken {X} xs i x h e = take_more xs i x h ∙ ap (λ (z : X). take i xs ++ z ∷ []) (sym e)

abbrev some : LabelParts → Option LabelParts
some l = Some l

-- what stays in place where more is appended
still : (fs more : List LabelParts) (p : ℕ) (l : LabelParts) → slice_get fs p ≡ Some l → slice_get (fs ++ more) p ≡ Some l
still [] more p l e = absurd (cc)
still (f ∷ fs) more zero l e = e
still (f ∷ fs) more (suc p) l e = still fs more p l e

pub last_at : (fs : List LabelParts) (l : LabelParts) → slice_get (fs ++ l ∷ []) (length fs) ≡ Some l
last_at [] l = refl
last_at (f ∷ fs) l = last_at fs l

module _ (fs more : List LabelParts) where
  still_placed : (ps : List ℕ) (ls : List LabelParts) → map (slice_get fs) ps ≡ map some ls → map (slice_get (fs ++ more)) ps ≡ map some ls
  still_placed [] [] e = refl
  still_placed [] (l ∷ ls) e = absurd (no_head (some l) (map some ls) e)
  still_placed (p ∷ ps) [] e = absurd (no_head (slice_get fs p) (map (slice_get fs) ps) (sym e))
  still_placed (p ∷ ps) (l ∷ ls) e =
      let one : slice_get (fs ++ more) p ≡ Some l = still fs more p l (heads (slice_get fs p) (some l) (map (slice_get fs) ps) (map some ls) e) in
      let rest = still_placed ps ls (tails (slice_get fs p) (some l) (map (slice_get fs) ps) (map some ls) e) in
      ap (λ (z : Option LabelParts). z ∷ map (slice_get (fs ++ more)) ps) one ∙ ap (λ (z : List (Option LabelParts)). some l ∷ z) rest

-- ---- one more label

-- the label is new, or it is there
module _ (old now : List LabelParts) (l : LabelParts) (added : Bool) (is : added ≡ not (has_label old l)) (n : now ≡ with_label old l) where
  pub is_new : added ≡ true → now ≡ old ++ l ∷ []
  is_new e = elim (cases_Bool (has_label old l)) [
    | inl there ↦ let no : false ≡ true = sym (rw there refl) ∙ (sym is ∙ e) in absurd (cc)
    | inr lacks ↦ n ∙ new_label old l lacks
  ]

  pub is_known : added ≡ false → has_label old l ≡ true
  is_known e = elim (cases_Bool (has_label old l)) [
    | inl there ↦ there
    | inr lacks ↦ let no : true ≡ false = sym (rw lacks refl) ∙ (sym is ∙ e) in absurd (cc)
  ]

  pub is_old : added ≡ false → now ≡ old
  is_old e = n ∙ known_label old l (is_known e)

-- a label that is there has a place
pub has_place : (ls : List LabelParts) (l : LabelParts) → IsDistinct same_label ls → has_label ls l ≡ true → None ≡ position (same_label l) ls → ⊥
has_place ls l d h none =
    let c : Contains ls l = Contains-from_any (λ a b e. (same_label-Decides a b).0 e) l ls h in
    let at : slice_get ls c.0 ≡ Some l = slice_get-get_or ls c.0 l c.1 ∙ ap (λ z. Some z) c.2 in
    let no : None ≡ Some c.0 = none ∙ the_number ls l c.0 d at in
    cc

-- the labels that are numbered
pub next_numbers : (ls : List LabelParts) (i : ℕ) (l : LabelParts) (known now : List LabelParts) → i < length ls → l ≡ get_or ls i l → known ≡ with_labels [] (take i ls) → now ≡ with_label known l
    → now ≡ with_labels [] (take (i + 1) ls)
unfolding with_labels
next_numbers ls i l known now h is k n =
    n ∙ (ap (λ (z : List LabelParts). with_label z l) k ∙ (sym (with_labels-append [] (take i ls) (l ∷ [])) ∙ ap (with_labels []) (sym (next_taken ls i l h is))))

grown : (ls : List LabelParts) (l : LabelParts) → (added : List LabelParts) × (with_label ls l ≡ ls ++ added)
unfolding with_labels
grown ls l = numbers_stay ls (l ∷ [])

-- each place has its label
pub next_places : (ls : List LabelParts) (i : ℕ) (l : LabelParts) → i < length ls → l ≡ get_or ls i l → (fs known now : List LabelParts) → fs ≡ known → now ≡ with_label known l
    → (ps : List ℕ) → map (slice_get fs) ps ≡ map some (take i ls) → (p : ℕ) → slice_get now p ≡ Some l → map (slice_get now) (ps ++ p ∷ []) ≡ map some (take (i + 1) ls)
next_places ls i l h is fs known now f n ps e p at =
    let g = grown known l in
    let whole : now ≡ fs ++ g.0 = n ∙ (g.1 ∙ ap (λ (z : List LabelParts). z ++ g.0) (sym f)) in
    let old : map (slice_get now) ps ≡ map some (take i ls) = ap (λ (z : List LabelParts). map (slice_get z) ps) whole ∙ still_placed fs g.0 ps (take i ls) e in
    map_push (slice_get now) ps p
    ∙ (ap (λ (z : List (Option LabelParts)). z ++ slice_get now p ∷ []) old
    ∙ (ap (λ (z : Option LabelParts). map some (take i ls) ++ z ∷ []) at
    ∙ (sym (map_push some (take i ls) l) ∙ ap (map some) (sym (next_taken ls i l h is)))))

-- ---- all labels

module _ (fs : List LabelParts) where
  -- the labels at places are those that stand there
  labels_are : (ps : List ℕ) (ls : List LabelParts) → map (slice_get fs) ps ≡ map some ls → labels_at fs ps ≡ ls
  labels_are [] [] e = refl
  labels_are [] (l ∷ ls) e = absurd (no_head (some l) (map some ls) e)
  labels_are (p ∷ ps) [] e = absurd (no_head (slice_get fs p) (map (slice_get fs) ps) (sym e))
  labels_are (p ∷ ps) (l ∷ ls) e =
      let one : slice_get fs p ≡ Some l = heads (slice_get fs p) (some l) (map (slice_get fs) ps) (map some ls) e in
      let rest : labels_at fs ps ≡ ls = labels_are ps ls (tails (slice_get fs p) (some l) (map (slice_get fs) ps) (map some ls) e) in
      ap (λ (z : Option LabelParts). cons_option z (labels_at fs ps)) one ∙ ap (λ (z : List LabelParts). l ∷ z) rest

  pub label_at_place : (ps : List ℕ) (ls : List LabelParts) → map (slice_get fs) ps ≡ map some ls → (i : ℕ) → slice_get ls i ≡ option_and_then (slice_get fs) (slice_get ps i)
  label_at_place [] [] e i = refl
  label_at_place [] (l ∷ ls) e i = absurd (no_head (some l) (map some ls) e)
  label_at_place (p ∷ ps) [] e i = absurd (no_head (slice_get fs p) (map (slice_get fs) ps) (sym e))
  label_at_place (p ∷ ps) (l ∷ ls) e zero = sym (heads (slice_get fs p) (some l) (map (slice_get fs) ps) (map some ls) e)
  label_at_place (p ∷ ps) (l ∷ ls) e (suc i) = label_at_place ps ls (tails (slice_get fs p) (some l) (map (slice_get fs) ps) (map some ls) e) i

  -- where no file comes twice, a place is that of its label
  pub place_by_label : IsDistinct same_label fs → (ps : List ℕ) (ls : List LabelParts) → map (slice_get fs) ps ≡ map some ls → (i : ℕ)
      → slice_get ps i ≡ option_and_then (λ l. position (same_label l) fs) (slice_get ls i)
  place_by_label d [] [] e i = refl
  place_by_label d [] (l ∷ ls) e i = absurd (no_head (some l) (map some ls) e)
  place_by_label d (p ∷ ps) [] e i = absurd (no_head (slice_get fs p) (map (slice_get fs) ps) (sym e))
  place_by_label d (p ∷ ps) (l ∷ ls) e zero = sym (the_number fs l p d (heads (slice_get fs p) (some l) (map (slice_get fs) ps) (map some ls) e))
  place_by_label d (p ∷ ps) (l ∷ ls) e (suc i) = place_by_label d ps ls (tails (slice_get fs p) (some l) (map (slice_get fs) ps) (map some ls) e) i

-- what was made of labels, one after another
module _ (ls : List LabelParts) (i : ℕ) (h : length ls ≤ i) (fs known : List LabelParts) (f : fs ≡ known) (k : known ≡ with_labels [] (take i ls)) (ps : List ℕ) (e : map (slice_get fs) ps ≡ map some (take i ls)) where
  placed : map (slice_get fs) ps ≡ map some ls
  placed = e ∙ ap (map some) (take_all i ls h)

  pub labels_named : labels_at fs ps ≡ ls
  labels_named = labels_are fs ps ls placed

  pub are_named : AreNamed fs ps
  are_named = record {
    placed = placed ∙ ap (map some) (sym labels_named);
    once = f ∙ (k ∙ ap (with_labels []) (take_all i ls h ∙ sym labels_named));
  }

-- ---- files and places that are kept

module _ (fs : List LabelParts) (ps : List ℕ) (n : AreNamed fs ps) (i : ℕ) where
  pub label_kept : option_and_then (slice_get fs) (slice_get ps i) ≡ slice_get (labels_at fs ps) i
  label_kept = sym (label_at_place fs ps (labels_at fs ps) n.placed i)

  pub place_kept : slice_get ps i ≡ place_named (labels_at fs ps) i
  place_kept =
      let ls : List LabelParts = labels_at fs ps in
      let d : IsDistinct same_label fs = subst (λ (z : List LabelParts). IsDistinct same_label z) (sym n.once) (each_label_once ls) in
      place_by_label fs d ps ls n.placed i ∙ ap (λ (z : List LabelParts). option_and_then (λ l. position (same_label l) z) (slice_get ls i)) n.once

nothing : AreNamed [] []
unfolding with_labels
nothing = record { placed = refl; once = refl }

pub none_named : (fs : List LabelParts) (ps : List ℕ) → fs ≡ [] → ps ≡ [] → AreNamed fs ps
none_named fs ps f p = subst (λ (z : List LabelParts). AreNamed z ps) (sym f) (subst (λ (z : List ℕ). AreNamed [] z) (sym p) nothing)

-- what `get` lends, copied, is what stands there
pub copied_at : (places : List ℕ) (r : Option (Bor ℕ)) (load : ℕ) → MatchOption r (length places ≤ load) (λ x. (load < length places) × ((d : ℕ) → x.now ≡ get_or places load d)) → option_copied r ≡ slice_get places load
copied_at places None load past = sym (slice_get_past places load past)
copied_at places (Some x) load at = sym (slice_get_read places (length places) load x.now refl (at.0) (at.1 x.now))
