-- The modules that were found, in order, and their rows are the load graph, unless there are too many edges.
use Rattle.std.proofs.Common.{◌≡◌, ◌∙◌, ◌≤◌, ◌<◌, List, [], Some, length, map, slice_get, refl, sym, ap, subst, arith}
use Rattle.std.specs.List.{Contains, IsDistinct, flat_map}
use Rattle.std.specs.List.Sorted.{IsPermutation, IsSorted, IsStrictlySortedBy}
use Rattle.std.proofs.Math.Nat.{lt_of_not-le}
use Rattle.std.proofs.lemmas.List.{length-map}
use Rattle.std.proofs.lemmas.List.Sorted.{length_permutation}
use Rattle.bq_label.specs.declared.packages.BuildFile.{BuildFile}
use Rattle.bq_label.specs.Label.{LabelParts}
use Rattle.bq_label_set.specs.Labels.{same_label, with_labels}
use Rattle.bq_label_set.proofs.Added.{those_that_differ}
use Rattle.bq_board_plan.specs.Graph.{Loads, edges, Fits, IsGraph}
use Rattle.bq_base.specs.declared.limits.Limits.{Limits}
use Rattle.bq_base.specs.Limits.{number_bound}
use Rattle.bq_load_front.specs.Inputs.{InputParts}
use Rattle.bq_load_front.specs.Front.{loads_by}
use Rattle.bq_load_front.specs.Reading.{parsed_of, loads_of}
use Rattle.bq_load_discover.specs.declared.modules.Module.{Module}
use Rattle.bq_load_discover.specs.Module.{labels_of, AreValid, label_cmp, module_cmp}
use Rattle.bq_load_discover.specs.Modules.{IsModule, AreTooMany, edges_from}
use Rattle.bq_load_discover.specs.Exploring.{AreFound}
use Rattle.bq_load_discover.specs.Edges.{row_of, rows_of}
use Rattle.bq_load_discover.specs.LoadGraph.{GraphParts, IsNumbered, IsReadGraph}
use Rattle.bq_load_discover.proofs.Ordered.{differ, modules_ascend, are_modules, still_read}
use Rattle.bq_load_discover.proofs.Rows.{all_rows, edges_count}

module _ (found : List Module) (d : IsDistinct same_label (labels_of found)) (small : length found < number_bound) (ms : List Module) (p : IsPermutation found ms) (s : IsSorted module_cmp ms) (v : AreValid ms) where
  pub few : length (labels_of ms) < number_bound
  few =
      let a : length (labels_of ms) ≡ length ms = length-map ms (λ (m : Module). m.label) in
      omega (arith, a, length_permutation found ms p, small)

  ascend : IsStrictlySortedBy label_cmp (labels_of ms)
  ascend = modules_ascend found d ms p s v

  pub is_numbered : (bs : List BuildFile) → IsGraph (rows_of (labels_of ms) ms) → IsNumbered (record { labels = labels_of ms; modules = ms; edges = rows_of (labels_of ms) ms; packages = bs })
  is_numbered bs g = record {
    ascending = ascend;
    named = refl;
    long = length-map ms (λ (m : Module). row_of (labels_of ms) (loads_by m.front)) ∙ sym (length-map ms (λ (m : Module). m.label));
    valid = g;
  }

module _ (limits : Limits) (inputs : InputParts) (found : List Module) (f : AreFound limits inputs found) (ms : List Module) (p : IsPermutation found ms) (s : IsSorted module_cmp ms) (v : AreValid ms) where
  all_loaded : (m l : LabelParts) → Contains (labels_of ms) m → Contains (loads_of inputs m) l → Contains (labels_of ms) l
  all_loaded m l c d =
      let a = are_modules limits inputs found f ms p s v in
      a.all l (IsModule.loaded m (a.only m c) d)

  rows : map (map (slice_get (labels_of ms))) (rows_of (labels_of ms) ms) ≡ map (λ m. map (λ l. Some l) (edges_from (parsed_of inputs) m)) (labels_of ms)
  rows = all_rows inputs (labels_of ms) (differ (labels_of ms) (modules_ascend found f.distinct ms p s v)) ms (still_read limits inputs found f ms p s v) all_loaded

  pub is_read_graph : (bs : List BuildFile) → bs ≡ inputs.packages → IsGraph (rows_of (labels_of ms) ms) → IsReadGraph inputs (record { labels = labels_of ms; modules = ms; edges = rows_of (labels_of ms) ms; packages = bs })
  is_read_graph bs b g = record {
    graph = record { modules = are_modules limits inputs found f ms p s v; edges = rows; valid = g };
    read = still_read limits inputs found f ms p s v;
    packages = b;
  }

  pub too_many_edges : ¬ Fits limits (rows_of (labels_of ms) ms) → AreTooMany limits inputs.packages (parsed_of inputs)
  too_many_edges n =
      let counted : edges (rows_of (labels_of ms) ms) ≡ length (flat_map (edges_from (parsed_of inputs)) (labels_of ms)) = edges_count (slice_get (labels_of ms)) (edges_from (parsed_of inputs)) (rows_of (labels_of ms) ms) (labels_of ms) rows in
      let long : length (rows_of (labels_of ms) ms) ≡ length ms = length-map ms (λ (m : Module). row_of (labels_of ms) (loads_by m.front)) in
      let lists : length (rows_of (labels_of ms) ms) ≤ limits.modules = omega (arith, long, length_permutation found ms p, f.few) in
      let many : limits.edges < edges (rows_of (labels_of ms) ms) = lt_of_not-le (λ h. n (lists, h)) in
      AreTooMany.edges (labels_of ms) (are_modules limits inputs found f ms p s v) (omega (arith, many, counted))

-- ---- as the code holds these parts

abbrev parts : List LabelParts → List Module → Loads → List BuildFile → GraphParts
parts ls ms p bs = record { labels = ls; modules = ms; edges = p; packages = bs }

module _ (found : List Module) (d : IsDistinct same_label (labels_of found)) (small : length found < number_bound) (ms : List Module) (p : IsPermutation found ms) (s : IsSorted module_cmp ms)
    (held again : List Module) (h : held ≡ ms) (a : again ≡ ms) (v : AreValid held) (ls : List LabelParts) (n : ls ≡ with_labels [] (labels_of held)) where
  valid : AreValid ms
  valid = subst (λ (z : List Module). AreValid z) h v

  labels : ls ≡ labels_of ms
  labels =
      let once : with_labels [] (labels_of ms) ≡ labels_of ms = those_that_differ (labels_of ms) (differ (labels_of ms) (modules_ascend found d ms p s valid)) in
      n ∙ (ap (λ (z : List Module). with_labels [] (labels_of z)) h ∙ once)

  same : rows_of ls again ≡ rows_of (labels_of ms) ms
  same = ap (λ (z : List LabelParts). rows_of z again) labels ∙ ap (λ (z : List Module). rows_of (labels_of ms) z) a

  pub held_few : length ls < number_bound
  held_few = subst (λ (z : List LabelParts). length z < number_bound) (sym labels) (few found d small ms p s valid)

  pub held_wide : length ls ≡ length again
  held_wide = ap length labels ∙ (length-map ms (λ (m : Module). m.label) ∙ sym (ap length a))

  pub held_too_many : (limits : Limits) → ¬ Fits limits (rows_of ls again) → (inputs : InputParts) → AreFound limits inputs found → AreTooMany limits inputs.packages (parsed_of inputs)
  held_too_many limits none inputs f = too_many_edges limits inputs found f ms p s valid (subst (λ (z : Loads). ¬ Fits limits z) same none)

  module _ (es : Loads) (e : es ≡ rows_of ls again) (bs : List BuildFile) where
    whole : parts (labels_of ms) ms (rows_of (labels_of ms) ms) bs ≡ parts ls ms es bs
    whole = ap (λ (z : List LabelParts). parts z ms (rows_of (labels_of ms) ms) bs) (sym labels) ∙ ap (λ (z : Loads). parts ls ms z bs) (sym (e ∙ same))

    pub held_numbered : IsGraph (rows_of ls again) → IsNumbered (record { labels = ls; modules = ms; edges = es; packages = bs })
    held_numbered g = subst (λ (z : GraphParts). IsNumbered z) whole (is_numbered found d small ms p s valid bs (subst (λ (z : Loads). IsGraph z) same g))

    pub held_graph : IsGraph (rows_of ls again) → (limits : Limits) (inputs : InputParts) → AreFound limits inputs found → bs ≡ inputs.packages → IsReadGraph inputs (record { labels = ls; modules = ms; edges = es; packages = bs })
    held_graph g limits inputs f b = subst (λ (z : GraphParts). IsReadGraph inputs z) whole (is_read_graph limits inputs found f ms p s valid bs b (subst (λ (z : Loads). IsGraph z) same g))

    pub held_fits : (limits : Limits) → Fits limits (rows_of ls again) → Fits limits es
    held_fits limits f = subst (λ (z : Loads). Fits limits z) (sym e) f
