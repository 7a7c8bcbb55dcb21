-- Edges, by the labels that targets name.
use Rattle.std.proofs.Common.{◌≡◌, ◌≢◌, ◌∙◌, ◌<◌, ◌↔◌, ℕ, zero, suc, List, [], ◌∷◌, Option, Some, None, length, slice_get, get_or, refl, sym, ap, subst, arith, inl, inr}
use Rattle.std.specs.List.{All, Contains}
use Rattle.std.specs.Prelude.{position}
use Rattle.std.proofs.lemmas.List.Elements.{All-from_get_or, Contains-get_or}
use Rattle.std.proofs.lemmas.List.Sorted.{Contains-permutation, IsPermutation-sym}
use Rattle.bq_label.specs.Label.{LabelParts}
use Rattle.bq_label.proofs.Orders.{at_head, in_tail, head_or_tail, in_order_moves}
use Rattle.bq_label_set.specs.Labels.{same_label}
use Rattle.bq_package_target.specs.declared.target.Target.{Target}
use Rattle.bq_package_target.specs.Package.{PackageTargets}
use Rattle.bq_package_target.specs.Target.{dependencies}
use Rattle.bq_query_graph.specs.Paths.{Pair, row}
use Rattle.bq_query_target_graph.specs.Edges.{IsGraphOf}
use Rattle.bq_query_target_graph.specs.Graph.{GraphParts, IsGraph}
use Rattle.bq_query_target_graph.specs.Order.{all_targets, target_labels, target_cmp, target_cmp_total, targets_of}
use Rattle.bq_query_target_graph.proofs.Ascends.{distinct_from_order}
use Rattle.bq_query_target_graph.proofs.Depends.{the_number}
use Rattle.bq_query_target_graph.proofs.Repeats.{flat_in, in_flat}
use Rattle.bq_facts.specs.Labels.{label_by, labels_at}
use Rattle.bq_facts.specs.Names.{named_labels}
use Rattle.bq_facts.proofs.NamedLabels.{names_are_dependencies}
use Rattle.bq_run_facts.specs.Laws.{AreParts, DirectAreNames, EdgesAreNames, IsJoined, LeadsTo, OfSome, PartsJoin}
use Rattle.bq_run_facts.specs.Lines.{direct}
use Rattle.bq_run_facts.proofs.Direct.{are_direct}

none_in : {X : Type 0} (z : X) → Contains [] z → ⊥
none_in z c = omega arith

-- ---- numbered targets

no_target : (t : Target) → None ≡ Some t → ⊥
no_target t e = cc

same_target : (x t : Target) → Some x ≡ Some t → x ≡ t
same_target x t e = cc

is_there : (ts : List Target) (n : ℕ) (t : Target) → slice_get ts n ≡ Some t → Contains ts t
is_there [] n t e = absurd (no_target t e)
is_there (x ∷ ts) zero t e = subst (λ (z : Target). Contains (x ∷ ts) z) (same_target x t e) (at_head x ts)
is_there (x ∷ ts) (suc n) t e = in_tail x ts t (is_there ts n t e)

is_below : (ts : List Target) (n : ℕ) (t : Target) → slice_get ts n ≡ Some t → n < length ts
is_below [] n t e = absurd (no_target t e)
is_below (x ∷ ts) zero t e = omega arith
is_below (x ∷ ts) (suc n) t e = let r = is_below ts n t e in omega (arith, r)

has_label_of : (ts : List Target) (n : ℕ) (t : Target) → slice_get ts n ≡ Some t → Contains (target_labels ts) t.label
has_label_of [] n t e = absurd (no_target t e)
has_label_of (x ∷ ts) zero t e = subst (λ (z : Target). Contains (target_labels (x ∷ ts)) z.label) (same_target x t e) (at_head x.label (target_labels ts))
has_label_of (x ∷ ts) (suc n) t e = in_tail x.label (target_labels ts) t.label (has_label_of ts n t e)

record IsAt (ts : List Target) (l : LabelParts) : Type 0 where
  number : ℕ
  target : Target
  is : slice_get ts number ≡ Some target
  label : target.label ≡ l

labelled : (ts : List Target) (l : LabelParts) → Contains (target_labels ts) l → IsAt ts l
labelled [] l c = absurd (none_in l c)
labelled (x ∷ ts) l c = elim (head_or_tail x.label (target_labels ts) l c) [
  | inl same ↦ record { number = 0; target = x; is = refl; label = same }
  | inr later ↦ let r = labelled ts l later in record { number = suc r.number; target = r.target; is = r.is; label = r.label }
]

same_number : (m n : ℕ) → Some m ≡ Some n → m ≡ n
same_number m n e = cc

-- targets in order have different labels
apart : (w : GraphParts) → IsGraph w → (m n : ℕ) (t u : Target) → slice_get w.targets m ≡ Some t → slice_get w.targets n ≡ Some u → u.label ≡ t.label → n ≡ m
apart w g m n t u a b same =
    let distinct = distinct_from_order w.targets g.ascending in
    same_number n m (sym (the_number w.targets n u distinct b) ∙ (ap (λ (l : LabelParts). position (same_label l) (target_labels w.targets)) same ∙ the_number w.targets m t distinct a))

-- ---- edges

module _ (ps : List PackageTargets) (w : GraphParts) (made : IsGraphOf ps w) where
  below : (x : ℕ) → All (λ y. y < length w.targets) (row w.edges x)
  below x = All-from_get_or (λ y. y < length w.targets) (row w.edges x) 0 (λ i l.
      let d = (made.pairs x (get_or (row w.edges x) i 0)).0 (Contains-get_or (row w.edges x) i 0 l) in
      is_below w.targets (get_or (row w.edges x) i 0) d.target d.to)

  module _ (x : ℕ) (t : Target) (here : slice_get w.targets x ≡ Some t) where
    -- the edge's target has a label that t names
    names_end : (y : ℕ) (u : Target) → slice_get w.targets y ≡ Some u → Pair w.edges x y → Contains (named_labels t) u.label
    names_end y u there edge =
        let d = (made.pairs x y).0 edge in
        let own : d.source ≡ t = same_target d.source t (sym d.from ∙ here) in
        let end : d.target ≡ u = same_target d.target u (sym d.to ∙ there) in
        (names_are_dependencies t u.label).1
        (subst (λ (z : Target). Contains (dependencies z) u.label) own (subst (λ (z : Target). Contains (dependencies d.source) z.label) end d.named))

    has_edge : (y : ℕ) (u : Target) → slice_get w.targets y ≡ Some u → Contains (named_labels t) u.label → Pair w.edges x y
    has_edge y u there named =
        (made.pairs x y).1 (record { source = t; from = here; target = u; to = there; named = (names_are_dependencies t u.label).0 named })

    edges_are_names : (l : LabelParts) → LeadsTo w x l ↔ (Contains (named_labels t) l × Contains (target_labels w.targets) l)
    edges_are_names l = (
      λ e. (
        subst (λ (z : LabelParts). Contains (named_labels t) z) e.label (names_end e.number e.target e.is e.edge),
        subst (λ (z : LabelParts). Contains (target_labels w.targets) z) e.label (has_label_of w.targets e.number e.target e.is),
      ),
      λ (named, known).
          let at = labelled w.targets l known in
          record {
            number = at.number;
            target = at.target;
            is = at.is;
            label = at.label;
            edge = has_edge at.number at.target at.is (subst (λ (z : LabelParts). Contains (named_labels t) z) (sym at.label) named);
          },
    )

    label_is : (o : Option Target) (l : LabelParts) → Contains (label_by o) l → (u : Target) × (o ≡ Some u) × (u.label ≡ l)
    label_is None l c = absurd (none_in l c)
    label_is (Some u) l c = elim (head_or_tail u.label [] l c) [
      | inl same ↦ (u, refl, same)
      | inr never ↦ absurd (none_in l never)
    ]

    at_number : (y : ℕ) (u : Target) → slice_get w.targets y ≡ Some u → Contains (label_by (slice_get w.targets y)) u.label
    at_number y u there = subst (λ (o : Option Target). Contains (label_by o) u.label) (sym there) (at_head u.label [])

    direct_are_names : IsGraph w → (l : LabelParts) → Contains (labels_at w.targets (direct w x)) l
        ↔ (Contains (named_labels t) l × Contains (target_labels w.targets) l × (l ≢ t.label))
    direct_are_names g l = (
      λ c.
          let found = in_flat (λ (at : ℕ). label_by (slice_get w.targets at)) (direct w x) l c in
          let r = label_is (slice_get w.targets found.part) l found.inside in
          let edge = ((are_direct w x (below x)).each found.part).0 found.known in (
            subst (λ (z : LabelParts). Contains (named_labels t) z) r.2 (names_end found.part r.0 r.1 edge.0),
            subst (λ (z : LabelParts). Contains (target_labels w.targets) z) r.2 (has_label_of w.targets found.part r.0 r.1),
            λ own. edge.1 (apart w g x found.part t r.0 here r.1 (r.2 ∙ own)),
          ),
      λ (named, known, other).
          let at = labelled w.targets l known in
          let edge = has_edge at.number at.target at.is (subst (λ (z : LabelParts). Contains (named_labels t) z) (sym at.label) named) in
          let differs : at.number ≢ x = λ same.
          let own : at.target ≡ t = same_target at.target t (sym at.is ∙ (ap (λ (n : ℕ). slice_get w.targets n) same ∙ here)) in
          other (sym at.label ∙ ap (λ (z : Target). z.label) own) in
          let there = ((are_direct w x (below x)).each at.number).1 (edge, differs) in
          flat_in (λ (n : ℕ). label_by (slice_get w.targets n)) (direct w x) at.number l there
          (subst (λ (z : LabelParts). Contains (label_by (slice_get w.targets at.number)) z) at.label (at_number at.number at.target at.is)),
    )

pub direct_are_names_of_targets : DirectAreNames
direct_are_names_of_targets ps w x t made graph here l = direct_are_names ps w made x t here graph l

pub edges_are_names_of_targets : EdgesAreNames
edges_are_names_of_targets ps w x t made here l = edges_are_names ps w made x t here l

-- ---- parts

module _ (parts : List (List PackageTargets)) (ps : List PackageTargets) (w : GraphParts) (cut : AreParts parts ps) (made : IsGraphOf ps w) where
  moved : (t : Target) → Contains w.targets t → Contains (all_targets ps) t
  moved t c =
      Contains-permutation (targets_of ps) (all_targets ps) t (IsPermutation-sym (all_targets ps) (targets_of ps) (in_order_moves target_cmp target_cmp_total (all_targets ps)))
      (subst (λ (ts : List Target). Contains ts t) made.targets c)

  moved_back : (t : Target) → Contains (all_targets ps) t → Contains w.targets t
  moved_back t c =
      subst (λ (ts : List Target). Contains ts t) (sym made.targets)
      (Contains-permutation (all_targets ps) (targets_of ps) t (in_order_moves target_cmp target_cmp_total (all_targets ps)) c)

  of_some : (t : Target) → Contains w.targets t → OfSome parts t
  of_some t c =
      let found = in_flat (λ (p : PackageTargets). p.targets) ps t (moved t c) in
      let r = (cut found.part).0 found.known in
      (r.0, r.1, flat_in (λ (p : PackageTargets). p.targets) r.0 found.part t r.2 found.inside)

  is_of_whole : (t : Target) → OfSome parts t → Contains w.targets t
  is_of_whole t (part, known, has) =
      let found = in_flat (λ (p : PackageTargets). p.targets) part t has in
      moved_back t (flat_in (λ (p : PackageTargets). p.targets) ps found.part t ((cut found.part).1 (part, known, found.known)) found.inside)

  joined : (a b : ℕ) → Pair w.edges a b → IsJoined parts w.targets a b
  joined a b edge =
      let d = (made.pairs a b).0 edge in
      record {
        source = d.source;
        from = d.from;
        target = d.target;
        to = d.to;
        of_some = of_some d.source (is_there w.targets a d.source d.from);
        of_another = of_some d.target (is_there w.targets b d.target d.to);
        named = (names_are_dependencies d.source d.target.label).1 d.named;
      }

  is_edge : (a b : ℕ) → IsJoined parts w.targets a b → Pair w.edges a b
  is_edge a b j =
      (made.pairs a b).1
      (record { source = j.source; from = j.from; target = j.target; to = j.to; named = (names_are_dependencies j.source j.target.label).0 j.named })

pub parts_join : PartsJoin
parts_join parts ps w cut made = (
  λ t. (of_some parts ps w cut made t, is_of_whole parts ps w cut made t),
  λ a b. (joined parts ps w cut made a b, is_edge parts ps w cut made a b),
)
