-- The numbers in a row are those of the labels that are loaded.
use Rattle.std.proofs.Common.{◌≡◌, ◌∙◌, ◌<◌, ◌+◌, ℕ, zero, suc, List, [], ◌∷◌, ◌++◌, Option, None, Some, length, map, take, get_or, slice_get, refl, sym, ap, subst, inl, inr, length-append, arith}
use Rattle.std.specs.List.{Contains, IsDistinct, filter_map, flat_map, cons_option}
use Rattle.std.specs.Prelude.{option_to_list}
use Rattle.std.proofs.lemmas.List.{length-map}
use Rattle.std.proofs.lemmas.List.Elements.{filter_map-append}
use Rattle.std.proofs.lemmas.List.Quantifiers.{position-Some}
use Rattle.bq_label.specs.Label.{LabelParts}
use Rattle.bq_label.proofs.Orders.{at_head, in_tail}
use Rattle.bq_label_set.specs.Labels.{same_label, with_labels}
use Rattle.bq_label_set.proofs.Added.{the_labels_added}
use Rattle.bq_label_set.proofs.Numbers.{the_number}
use Rattle.bq_board_plan.specs.Counts.{Has}
use Rattle.bq_board_plan.specs.Graph.{Loads, sources, edges, Known}
use Rattle.bq_board_plan.proofs.Lemmas.{cons_has}
use Rattle.bq_load_front.specs.Inputs.{InputParts}
use Rattle.bq_load_front.specs.Front.{loads_by}
use Rattle.bq_load_front.specs.Reading.{parsed_of, loads_of}
use Rattle.bq_load_front.proofs.ByName.{loads_agree}
use Rattle.bq_load_discover.specs.declared.modules.Module.{Module}
use Rattle.bq_load_discover.specs.Module.{module_of}
use Rattle.bq_load_discover.specs.Modules.{edges_from}
use Rattle.bq_load_discover.specs.Edges.{number_in, row_of, rows_of}
use Rattle.bq_load_discover.proofs.Lists.{none_in, next_taken, place_of}

-- ---- one step along the files that a module loads

pub row_next : (ls files : List LabelParts) (i : ℕ) (l : LabelParts) (row now : List ℕ) → i < length files → l ≡ get_or files i l → row ≡ filter_map (number_in ls) (take i files) → now ≡ row ++ option_to_list (number_in ls l)
    → now ≡ filter_map (number_in ls) (take (i + 1) files)
row_next ls files i l row now h is e n =
    let f : LabelParts → Option ℕ = number_in ls in
    n ∙ (ap (λ (z : List ℕ). z ++ option_to_list (f l)) e ∙ (ap (λ (z : List ℕ). filter_map f (take i files) ++ z) (one (f l)) ∙ (sym (filter_map-append f (take i files) (l ∷ [])) ∙ ap (filter_map f) (sym (next_taken files i l h is)))))
  where
    one : (o : Option ℕ) → option_to_list o ≡ cons_option o []
    one None = refl
    one (Some n) = refl

-- ---- the numbers of a row

numbered : (ls : List LabelParts) (l : LabelParts) → IsDistinct same_label ls → Contains ls l → (n : ℕ) × (number_in ls l ≡ Some n) × (slice_get ls n ≡ Some l)
numbered ls l d c = let p = place_of ls l c in (p.0, the_number ls l p.0 d p.1, p.1)

named : (ls ms : List LabelParts) → IsDistinct same_label ls → ((m : LabelParts) → Contains ms m → Contains ls m) → map (slice_get ls) (filter_map (number_in ls) ms) ≡ map (λ m. Some m) ms
named ls [] d f = refl
named ls (m ∷ ms) d f =
    let n = numbered ls m d (f m (at_head m ms)) in
    rw n.1 (ap (λ (z : Option LabelParts). z ∷ map (slice_get ls) (filter_map (number_in ls) ms)) n.2 ∙ ap (λ (z : List (Option LabelParts)). Some m ∷ z) (named ls ms d (λ k c. f k (in_tail m ms k c))))

pub row_is : (ls loads : List LabelParts) → IsDistinct same_label ls → ((l : LabelParts) → Contains loads l → Contains ls l) → map (slice_get ls) (row_of ls loads) ≡ map (λ l. Some l) (with_labels [] loads)
row_is ls loads d f = named ls (with_labels [] loads) d (λ l c. elim ((the_labels_added [] loads l).0 c) [ inl none ↦ absurd (none_in l none) | inr here ↦ f l here ])

-- ---- each number in a row is that of a label

one_below : (b x : ℕ) (o : Option ℕ) (xs : List ℕ) → ((n : ℕ) → o ≡ Some n → n < b) → (Has xs x → x < b) → Has (cons_option o xs) x → x < b
one_below b x None xs first rest h = rest h
one_below b x (Some n) xs first rest h = elim (cons_has n xs x h) [
  | inl e ↦ subst (λ (z : ℕ). z < b) e (first n refl)
  | inr k ↦ rest k
]

row_below : (ls ms : List LabelParts) (x : ℕ) → Has (filter_map (number_in ls) ms) x → x < length ls
row_below ls [] x h = absurd (omega arith)
row_below ls (m ∷ ms) x h = one_below (length ls) x (number_in ls m) (filter_map (number_in ls) ms) (λ n e. (position-Some (same_label m) ls n m e).0) (row_below ls ms x) h

all_below : (ls : List LabelParts) (ms : List Module) (k x : ℕ) → Has (get_or (rows_of ls ms) k []) x → x < length ls
all_below ls [] k x h = absurd (omega arith)
all_below ls (m ∷ ms) zero x h = row_below ls (with_labels [] (loads_by m.front)) x h
all_below ls (m ∷ ms) (suc k) x h = all_below ls ms k x h

pub rows_known : (ls : List LabelParts) (ms : List Module) → length ls ≡ length ms → Known (rows_of ls ms)
rows_known ls ms e k x h =
    let wide : length (rows_of ls ms) ≡ length ms = length-map ms (λ (m : Module). row_of ls (loads_by m.front)) in
    omega (arith, all_below ls ms k x h, wide, e)

-- ---- the rows of modules

loads_are : (inputs : InputParts) (l : LabelParts) → loads_by ((module_of inputs l).front) ≡ loads_of inputs l
loads_are inputs l = loads_agree inputs l

module _ (inputs : InputParts) (ls : List LabelParts) (d : IsDistinct same_label ls) where
  AreKnown : List LabelParts → Type 0
  AreKnown ms = (m l : LabelParts) → Contains ms m → Contains (loads_of inputs m) l → Contains ls l

  one_row : (m : LabelParts) → ((l : LabelParts) → Contains (loads_of inputs m) l → Contains ls l) → map (slice_get ls) (row_of ls (loads_by ((module_of inputs m).front))) ≡ map (λ l. Some l) (edges_from (parsed_of inputs) m)
  one_row m f = ap (λ (z : List LabelParts). map (slice_get ls) (row_of ls z)) (loads_are inputs m) ∙ row_is ls (loads_of inputs m) d f

  rows_are : (ms : List LabelParts) → AreKnown ms → map (map (slice_get ls)) (rows_of ls (map (module_of inputs) ms)) ≡ map (λ m. map (λ l. Some l) (edges_from (parsed_of inputs) m)) ms
  unfolding AreKnown
  rows_are [] k = refl
  rows_are (m ∷ ms) k =
      ap (λ (z : List (Option LabelParts)). z ∷ map (map (slice_get ls)) (rows_of ls (map (module_of inputs) ms))) (one_row m (λ l c. k m l (at_head m ms) c))
      ∙ ap (λ (z : List (List (Option LabelParts))). map (λ l. Some l) (edges_from (parsed_of inputs) m) ∷ z) (rows_are ms (λ n l c e. k n l (in_tail m ms n c) e))

  pub all_rows : (ms : List Module) → ms ≡ map (module_of inputs) ls → ((m l : LabelParts) → Contains ls m → Contains (loads_of inputs m) l → Contains ls l)
      → map (map (slice_get ls)) (rows_of ls ms) ≡ map (λ m. map (λ l. Some l) (edges_from (parsed_of inputs) m)) ls
  unfolding AreKnown
  all_rows ms e k = ap (λ (z : List Module). map (map (slice_get ls)) (rows_of ls z)) e ∙ rows_are ls k

-- ---- how many edges there are

row_long : {X Y : Type 0} (f : ℕ → X) (g : Y → X) (xs : List ℕ) (ys : List Y) → map f xs ≡ map g ys → length xs ≡ length ys
row_long f g xs ys e = sym (length-map xs f) ∙ (ap length e ∙ length-map ys g)

pub edges_count : (f : ℕ → Option LabelParts) (to : LabelParts → List LabelParts) (p : Loads) (ms : List LabelParts) → map (map f) p ≡ map (λ m. map (λ l. Some l) (to m)) ms → edges p ≡ length (flat_map to ms)
edges_count f to [] [] e = refl
edges_count f to [] (m ∷ ms) e = absurd (cc)
edges_count f to (r ∷ p) [] e = absurd (cc)
edges_count f to (r ∷ p) (m ∷ ms) e =
    let one : map f r ≡ map (λ l. Some l) (to m) = heads (map f r) (map (λ l. Some l) (to m)) (map (map f) p) (map (λ m. map (λ l. Some l) (to m)) ms) e in
    let rest : map (map f) p ≡ map (λ m. map (λ l. Some l) (to m)) ms = tails (map f r) (map (λ l. Some l) (to m)) (map (map f) p) (map (λ m. map (λ l. Some l) (to m)) ms) e in
    let a : length r ≡ length (to m) = row_long f (λ l. Some l) r (to m) one in
    let b : length (sources p) ≡ length (flat_map to ms) = edges_count f to p ms rest in
    length-append r (sources p) ∙ (ap (λ (z : ℕ). z + length (sources p)) a ∙ (ap (λ (z : ℕ). length (to m) + z) b ∙ sym (length-append (to m) (flat_map to ms))))
  where
    heads : {X : Type 0} (x y : X) (xs ys : List X) → x ∷ xs ≡ y ∷ ys → x ≡ y
    heads x y xs ys e = cc

    tails : {X : Type 0} (x y : X) (xs ys : List X) → x ∷ xs ≡ y ∷ ys → xs ≡ ys
    tails x y xs ys e = cc
