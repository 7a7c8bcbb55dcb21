-- What a module of a load graph loads is a .bzl file.
use Rattle.std.proofs.Common.{◌≡◌, ◌∙◌, ℕ, inl, inr, List, [], ◌∷◌, map, Option, Some, None, option_map, slice_get, Contains, refl, sym, ap, arith}
use Rattle.std.proofs.lemmas.Option.{slice_get-map, get_or_from_slice_get}
use Rattle.bq_parse_grammar.specs.declared.tree.FileKind.TheVariants as kinds
use Rattle.bq_label.specs.Label.{LabelParts, package_of}
use Rattle.bq_label.proofs.Orders.{at_head, in_tail}
use Rattle.bq_label_set.proofs.Added.{none_in, the_labels_added}
use Rattle.bq_board.specs.Counts.{Has}
use Rattle.bq_board.specs.Graph.{row}
use Rattle.bq_board.proofs.Lemmas.{cons_has}
use Rattle.bq_load_front.proofs.LoadNames.{named}
use Rattle.bq_load_front.specs.Parsed.{kind_of}
use Rattle.bq_load_front.specs.Reading.{parsed_of, loads_of}
use Rattle.bq_load_front.specs.Inputs.{InputParts}
use Rattle.bq_load_front.proofs.Loads.{loaded_files}
use Rattle.bq_load_discover.specs.LoadGraph.{GraphParts, IsReadGraph}
use Rattle.bq_load_discover.specs.Modules.{edges_from}

-- a load names a .bzl file
load_is_bzl : (inputs : InputParts) (m l : LabelParts) → Contains (loads_of inputs m) l → kind_of l ≡ kinds.Bzl
unfolding kind_of
load_is_bzl inputs m l c =
    let one = loaded_files inputs m l c in
    let bzl = (named inputs.files inputs.packages (package_of m) one.load.line one.load.label l one.names).0.bzl in
    rw bzl refl

edge_is_bzl : (inputs : InputParts) (m l : LabelParts) → Contains (edges_from (parsed_of inputs) m) l → kind_of l ≡ kinds.Bzl
edge_is_bzl inputs m l c = elim ((the_labels_added [] (loads_of inputs m) l).0 c) [
  | inl nothing ↦ absurd (none_in l nothing)
  | inr there ↦ load_is_bzl inputs m l there
]

-- a number in a row is that of a label among those that the row is of
pub record Labelled (labels ls : List LabelParts) (k : ℕ) : Type 0 where
  pub label : LabelParts
  pub at : slice_get labels k ≡ Some label
  pub among : Contains ls label

pub labelled : (labels : List LabelParts) (row : List ℕ) (ls : List LabelParts) → map (slice_get labels) row ≡ map Some ls → (k : ℕ) → Has row k → Labelled labels ls k
labelled labels [] ls e k h = absurd (omega (arith, h))
labelled labels (n ∷ row) [] e k h = absurd (cc)
labelled labels (n ∷ row) (l ∷ ls) e k h =
    let first_is : slice_get labels n ≡ Some l = cc in
    let rest : map (slice_get labels) row ≡ map Some ls = cc in
    elim (cons_has n row k h) [
      | inl same ↦ record { label = l; at = ap (slice_get labels) (sym same) ∙ first_is; among = at_head l ls }
      | inr later ↦ let r = labelled labels row ls rest k later in record { label = r.label; at = r.at; among = in_tail l ls r.label r.among }
    ]

module _ (inputs : InputParts) (g : GraphParts) (is : IsReadGraph inputs g) where
  -- a module that is loaded has a label, of a .bzl file
  pub record IsBzl (k : ℕ) : Type 0 where
    pub label : LabelParts
    pub at : slice_get g.labels k ≡ Some label
    pub bzl : kind_of label ≡ kinds.Bzl

  abbrev pub edges_of : LabelParts → List (Option LabelParts)
  edges_of l = map Some (edges_from (parsed_of inputs) l)

  by_row : (m : ℕ) (ls : List (Option LabelParts)) (o : Option (List ℕ)) → slice_get g.edges m ≡ o → option_map (map (slice_get g.labels)) o ≡ Some ls → map (slice_get g.labels) (row g.edges m) ≡ ls
  by_row m ls None e h = absurd (cc)
  by_row m ls (Some r) e h =
      let same : map (slice_get g.labels) r ≡ ls = cc in
      ap (map (slice_get g.labels)) (get_or_from_slice_get g.edges m r [] e) ∙ same

  pub row_of : (m : ℕ) (l : LabelParts) → slice_get g.labels m ≡ Some l → map (slice_get g.labels) (row g.edges m) ≡ edges_of l
  row_of m l at =
      by_row m (edges_of l) (slice_get g.edges m) refl
      (sym (slice_get-map (map (slice_get g.labels)) g.edges m) ∙ ap (λ (z : List (List (Option LabelParts))). slice_get z m) is.graph.edges ∙ slice_get-map edges_of g.labels m ∙ ap (option_map edges_of) at)

  pub loaded_is_bzl : (m : ℕ) (l : LabelParts) → slice_get g.labels m ≡ Some l → (k : ℕ) → Has (row g.edges m) k → IsBzl k
  loaded_is_bzl m l at k h =
      let r = labelled g.labels (row g.edges m) (edges_from (parsed_of inputs) l) (row_of m l at) k h in
      record { label = r.label; at = r.at; bzl = edge_is_bzl inputs l r.label r.among }
