-- A workspace has at most one load graph, which doesn't keep the limits if there are too many modules or edges.
use Rattle.std.proofs.Common.{◌≡◌, ◌∙◌, ◌≤◌, ℕ, List, [], ◌∷◌, Option, Some, length, map, slice_get, refl, sym, ap, subst, arith}
use Rattle.std.specs.List.{Contains, IsDistinct, flat_map}
use Rattle.std.proofs.lemmas.List.{length-map}
use Rattle.std.proofs.lemmas.Map.Made.{length-le_from_is_member}
use Rattle.std.proofs.lemmas.Map.Views.{Contains-from_any, list_any-from_Contains}
use Rattle.bq_label.specs.declared.packages.BuildFile.{BuildFile}
use Rattle.bq_label.specs.Label.{LabelParts}
use Rattle.bq_label.proofs.Orders.{same_ascending}
use Rattle.bq_label_set.specs.Labels.{same_label, same_label-Decides, same_label-equiv}
use Rattle.bq_label_set.proofs.Numbers.{the_number}
use Rattle.bq_board_plan.specs.Graph.{Loads, edges, Fits}
use Rattle.bq_base.specs.declared.limits.Limits.{Limits}
use Rattle.bq_load_front.specs.Parsed.{Fronts}
use Rattle.bq_load_front.proofs.Fronts.{same_fronts}
use Rattle.bq_load_discover.specs.Module.{label_cmp, label_cmp_total}
use Rattle.bq_load_discover.specs.Modules.{AreModules, AreTooMany, edges_from}
use Rattle.bq_load_discover.specs.LoadGraph.{IsLoadGraph}
use Rattle.bq_load_discover.specs.Laws.{OneLoadGraph, TooManyForALoadGraph}
use Rattle.bq_load_discover.proofs.Ordered.{differ}
use Rattle.bq_load_discover.proofs.Rows.{edges_count}

pub same_modules : (packages : List BuildFile) (fronts : Fronts) (ls ms : List LabelParts) → AreModules packages fronts ls → AreModules packages fronts ms → ls ≡ ms
same_modules packages fronts ls ms a b = same_ascending label_cmp label_cmp_total ls ms a.ascending b.ascending (λ l c. b.all l (a.only l c)) (λ l c. a.all l (b.only l c))

-- ---- the rows

heads : {X : Type 0} (x y : X) (xs ys : List X) → x ∷ xs ≡ y ∷ ys → x ≡ y
heads x y xs ys e = cc

tails : {X : Type 0} (x y : X) (xs ys : List X) → x ∷ xs ≡ y ∷ ys → xs ≡ ys
tails x y xs ys e = cc

no_head : {X : Type 0} (x : X) (xs : List X) → [] ≡ x ∷ xs → ⊥
no_head x xs e = cc

one_number : (a b : ℕ) → Some a ≡ Some b → a ≡ b
one_number a b e = cc

module _ (ls : List LabelParts) (d : IsDistinct same_label ls) where
  same_number : (a b : ℕ) (l : LabelParts) → slice_get ls a ≡ Some l → slice_get ls b ≡ Some l → a ≡ b
  same_number a b l e f = one_number a b (sym (the_number ls l a d e) ∙ the_number ls l b d f)

  same_row : (xs ys : List ℕ) (ms : List LabelParts) → map (slice_get ls) xs ≡ map (λ l. Some l) ms → map (slice_get ls) ys ≡ map (λ l. Some l) ms → xs ≡ ys
  same_row [] [] ms e f = refl
  same_row [] (y ∷ ys) [] e f = absurd (no_head (slice_get ls y) (map (slice_get ls) ys) (sym f))
  same_row [] (y ∷ ys) (m ∷ ms) e f = absurd (no_head (Some m) (map (λ l. Some l) ms) e)
  same_row (x ∷ xs) ys [] e f = absurd (no_head (slice_get ls x) (map (slice_get ls) xs) (sym e))
  same_row (x ∷ xs) [] (m ∷ ms) e f = absurd (no_head (Some m) (map (λ l. Some l) ms) f)
  same_row (x ∷ xs) (y ∷ ys) (m ∷ ms) e f =
      let one : x ≡ y = same_number x y m (heads (slice_get ls x) (Some m) (map (slice_get ls) xs) (map (λ l. Some l) ms) e) (heads (slice_get ls y) (Some m) (map (slice_get ls) ys) (map (λ l. Some l) ms) f) in
      let rest : xs ≡ ys = same_row xs ys ms (tails (slice_get ls x) (Some m) (map (slice_get ls) xs) (map (λ l. Some l) ms) e) (tails (slice_get ls y) (Some m) (map (slice_get ls) ys) (map (λ l. Some l) ms) f) in
      ap (λ (z : ℕ). z ∷ xs) one ∙ ap (λ (z : List ℕ). y ∷ z) rest

  abbrev wanted : (LabelParts → List LabelParts) → List LabelParts → List (List (Option LabelParts))
  wanted to ms = map (λ m. map (λ l. Some l) (to m)) ms

  abbrev shown : Loads → List (List (Option LabelParts))
  shown p = map (map (slice_get ls)) p

  same_rows : (p q : Loads) (to : LabelParts → List LabelParts) (ms : List LabelParts) → shown p ≡ wanted to ms → shown q ≡ wanted to ms → p ≡ q
  same_rows [] [] to ms e f = refl
  same_rows [] (y ∷ q) to [] e f = absurd (no_head (map (slice_get ls) y) (shown q) (sym f))
  same_rows [] (y ∷ q) to (m ∷ ms) e f = absurd (no_head (map (λ l. Some l) (to m)) (wanted to ms) e)
  same_rows (x ∷ p) q to [] e f = absurd (no_head (map (slice_get ls) x) (shown p) (sym e))
  same_rows (x ∷ p) [] to (m ∷ ms) e f = absurd (no_head (map (λ l. Some l) (to m)) (wanted to ms) f)
  same_rows (x ∷ p) (y ∷ q) to (m ∷ ms) e f =
      let first : List (Option LabelParts) = map (λ l. Some l) (to m) in
      let one : x ≡ y = same_row x y (to m) (heads (map (slice_get ls) x) first (shown p) (wanted to ms) e) (heads (map (slice_get ls) y) first (shown q) (wanted to ms) f) in
      let rest : p ≡ q = same_rows p q to ms (tails (map (slice_get ls) x) first (shown p) (wanted to ms) e) (tails (map (slice_get ls) y) first (shown q) (wanted to ms) f) in
      ap (λ (z : List ℕ). z ∷ p) one ∙ ap (λ (z : Loads). y ∷ z) rest

-- ---- the graph

module _ (packages : List BuildFile) (fronts : Fronts) where
  one_graph : (ls ms : List LabelParts) (p q : Loads) → IsLoadGraph packages fronts ls p → IsLoadGraph packages fronts ms q → (ls ≡ ms) × (p ≡ q)
  one_graph ls ms p q a b =
      let labels : ls ≡ ms = same_modules packages fronts ls ms a.modules b.modules in
      let rows : map (map (slice_get ms)) p ≡ map (λ l. map (λ k. Some k) (edges_from fronts l)) ms =
      subst (λ (z : List LabelParts). map (map (slice_get z)) p ≡ map (λ l. map (λ k. Some k) (edges_from fronts l)) z) labels a.edges in
      (labels, same_rows ms (differ ms b.modules.ascending) p q (edges_from fronts) ms rows b.edges)

pub one_load_graph : OneLoadGraph
one_load_graph inputs a b is-a is-b ls ms p q x y =
    let one : b ≡ a = same_fronts inputs b a is-b is-a in
    one_graph inputs.packages a ls ms p q x (subst (λ (f : Fronts). IsLoadGraph inputs.packages f ms q) one y)

among : (some ls : List LabelParts) → ((l : LabelParts) → Contains some l → Contains ls l) → IsDistinct same_label some → length some ≤ length ls
among some ls f d = length-le_from_is_member same_label-equiv some ls d (λ q h.
    list_any-from_Contains same_label-equiv q ls (f q (Contains-from_any (λ x y e. (same_label-Decides x y).0 e) q some h)))

too_many : (limits : Limits) (packages : List BuildFile) (fronts : Fronts) (labels : List LabelParts) (p : Loads) → AreTooMany limits packages fronts → IsLoadGraph packages fronts labels p → ¬ Fits limits p
too_many limits packages fronts labels p (AreTooMany.modules some d many only) x fits =
    let few : length some ≤ length labels = among some labels (λ l c. x.modules.all l (only l c)) d in
    let rows : length p ≡ length labels = sym (length-map p (map (slice_get labels))) ∙ (ap length x.edges ∙ length-map labels (λ l. map (λ k. Some k) (edges_from fronts l))) in
    omega (arith, few, rows, many, fits.0)
too_many limits packages fronts labels p (AreTooMany.edges ls a many) x fits =
    let same : ls ≡ labels = same_modules packages fronts ls labels a x.modules in
    let counted : edges p ≡ length (flat_map (edges_from fronts) labels) = edges_count (slice_get labels) (edges_from fronts) p labels x.edges in
    let here : length (flat_map (edges_from fronts) ls) ≡ length (flat_map (edges_from fronts) labels) = ap (λ (z : List LabelParts). length (flat_map (edges_from fronts) z)) same in
    omega (arith, counted, here, many, fits.1)

pub too_many_for_a_load_graph : TooManyForALoadGraph
too_many_for_a_load_graph limits inputs a b is-a is-b labels p many x =
    let one : b ≡ a = same_fronts inputs b a is-b is-a in
    too_many limits inputs.packages a labels p many (subst (λ (f : Fronts). IsLoadGraph inputs.packages f labels p) one x)
