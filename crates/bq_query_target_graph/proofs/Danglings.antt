-- The lines that are put are those of the labels that name no target.
use Rattle.std.proofs.Common.{◌≡◌, ◌<◌, ◌∙◌, ◌↔◌, ℕ, Bool, true, false, cond, nat_lt, List, [], ◌∷◌, ◌++◌, Option, Some, None, length, take, drop, position, if◌then◌else◌, refl, sym, ap, subst, inl, inr, arith, append-nil, if◌then◌else◌}
use Rattle.std.specs.List.{flat_map, find, position_or_len, Contains, All}
use Rattle.std.specs.List.Sorted.{IsPermutation}
use Rattle.std.specs.Option.{unwrap_or}
use Rattle.std.specs.Ordering.{is_eq}
use Rattle.std.specs.declared.cmp.Ordering.{Ordering}
use Rattle.std.specs.declared.cmp.Ordering.TheVariants.{Less, Equal}
use Rattle.std.proofs.lemmas.Bool.Decides.{nat_tests}
use Rattle.std.proofs.lemmas.Cmp.{tied_itself}
use Rattle.std.proofs.lemmas.List.{take-append-drop}
use Rattle.std.proofs.lemmas.List.Concat.{flat_map-append}
use Rattle.std.proofs.lemmas.List.Elements.{All-contains, All-from_recursion}
use Rattle.std.proofs.lemmas.List.Folds.{list_any_at, list_any_none}
use Rattle.std.proofs.lemmas.List.Quantifiers.{position-Some}
use Rattle.std.proofs.lemmas.List.Sorted.{Contains-permutation, IsPermutation-map, IsPermutation-sym, list_any-IsPermutation}
use Rattle.std.proofs.lemmas.List.Sums.{AllPass-from_list_all, fails_before_first}
use Rattle.std.proofs.lemmas.Map.Keys.{sorted_head, sorted_tail}
use Rattle.bq_label.specs.Label.{LabelParts, PackageParts, package_of}
use Rattle.bq_label.specs.Packages.{id_cmp}
use Rattle.bq_label.proofs.BuildFiles.{by_id}
use Rattle.bq_label.proofs.Orders.{at_head, head_or_tail}
use Rattle.bq_base_texts.specs.declared.fault_line.FaultLine.{FaultLine}
use Rattle.std.specs.BTreeSet.{insert_key}
use Rattle.bq_base_texts.specs.FaultLine.{line_cmp, put_lines, sorted_lines}
use Rattle.bq_base_texts.proofs.LineOrder.{ascending, one_order, same_lines}
use Rattle.bq_package_target.specs.declared.target.Target.{Target}
use Rattle.bq_package_target.specs.Target.{is_of, dependencies}
use Rattle.bq_package_target.specs.Package.{PackageTargets, AreTargetsOf}
use Rattle.bq_package_target.specs.PackageOrder.{id_of, PackagesAscend}
use Rattle.bq_label_set.specs.Labels.{same_label, has_label}
use Rattle.bq_query_target_graph.specs.Order.{all_targets, target_labels}
use Rattle.bq_query_target_graph.specs.BuildFiles.{build_files, file_of}
use Rattle.bq_query_target_graph.specs.Edges.{looked_up}
use Rattle.bq_query_target_graph.specs.Dangling.{dangling_line, dangling, dangling_of, all_dangling, dangling_lines, dangling_to, dangling_at, dangling_from, IsDangling}
use Rattle.bq_query_target_graph.proofs.Cases.{dangling_in}
use Rattle.bq_query_target_graph.proofs.Ascends.{own_package}
use Rattle.bq_query_target_graph.proofs.Files.{of_package}
use Rattle.bq_query_target_graph.proofs.Repeats.{in_flat, flat_in, is_looked_up}

-- ---- whether a label is known

-- a label that has a number is one of them
pub has_number : (ls : List LabelParts) (l : LabelParts) (n : ℕ) → position (same_label l) ls ≡ Some n → has_label ls l ≡ true
has_number ls l n h = let p = position-Some (same_label l) ls n l h in list_any_at (same_label l) ls n l p.0 p.1

past_by : (b : Bool) (n : ℕ) → cond b (Some n) None ≡ None → b ≡ false
past_by true n h = absurd cc
past_by false n h = refl

-- a label that has none isn't
pub has_no_number : (ls : List LabelParts) (l : LabelParts) → position (same_label l) ls ≡ None → has_label ls l ≡ false
has_no_number ls l h =
    let past : nat_lt (position_or_len (same_label l) ls) (length ls) ≡ false = past_by (nat_lt (position_or_len (same_label l) ls) (length ls)) (position_or_len (same_label l) ls) h in
    list_any_none (same_label l) ls (λ k d within. let before : k < position_or_len (same_label l) ls = grind (arith, nat_tests) in fails_before_first (same_label l) ls k d before)

-- targets in another order have the same labels
pub same_known : (xs ys : List Target) → IsPermutation xs ys → (l : LabelParts) → has_label (target_labels xs) l ≡ has_label (target_labels ys) l
same_known xs ys m l = list_any-IsPermutation (same_label l) (target_labels xs) (target_labels ys) (IsPermutation-map (λ (t : Target). t.label) xs ys m)

-- ---- lines that are put

put_lines-append : (s xs ys : List FaultLine) → put_lines s (xs ++ ys) ≡ put_lines (put_lines s xs) ys
unfolding put_lines
put_lines-append s [] ys = refl
put_lines-append s (x ∷ xs) ys = put_lines-append (insert_key line_cmp s x) xs ys

pub none_put : (s : List FaultLine) → put_lines s [] ≡ s
unfolding put_lines
none_put s = refl

-- one step along a list of which each element gives lines
pub put_next : {X : Type 0} (f : X → List FaultLine) (old rest : List X) (x : X) (s t all : List FaultLine) → old ≡ x ∷ rest → put_lines s (flat_map f old) ≡ all → t ≡ put_lines s (f x) → put_lines t (flat_map f rest) ≡ all
put_next {X} f old rest x s t all e h g =
    ap (λ (z : List FaultLine). put_lines z (flat_map f rest)) g ∙ (sym (put_lines-append s (f x) (flat_map f rest)) ∙ (ap (λ (z : List X). put_lines s (flat_map f z)) (sym e) ∙ h))

-- ---- one label

module _ (known : LabelParts → Bool) (b l : LabelParts) (n : ℕ) (s : List FaultLine) where
  pub own_label : is_of (package_of b) l ≡ true → s ++ dangling known b n l ≡ s
  unfolding dangling
  own_label h = rw h (append-nil s)

  known_in : (own : Bool) → s ++ (if own then [] else (if true then [] else dangling_line b n l ∷ [])) ≡ s
  known_in true = append-nil s
  known_in false = append-nil s

  pub known_label : known l ≡ true → s ++ dangling known b n l ≡ s
  unfolding dangling
  known_label k = rw k (known_in (is_of (package_of b) l))

  pub missing_label : is_of (package_of b) l ≡ false → known l ≡ false → s ++ dangling known b n l ≡ s ++ dangling_line b n l ∷ []
  unfolding dangling
  missing_label h k = rw (h, k) refl

  -- a label that isn't known is as if none were
  pub unknown_label : known l ≡ false → dangling (λ _. false) b n l ≡ dangling known b n l
  unfolding dangling
  unknown_label k = rw k refl

-- ---- the line of one label, or none

module _ (ls files : List LabelParts) (t : Target) (x : LabelParts) (u : List FaultLine) where
  abbrev line_at : List FaultLine
  line_at = dangling (has_label ls) (file_of files t.label) t.line x

  -- one that has a number adds no line
  pub label_found : (n : ℕ) → position (same_label x) ls ≡ Some n → u ≡ u ++ dangling_to ls files t (x ∷ [])
  label_found n p =
      sym (known_label (has_label ls) (file_of files t.label) x t.line u (has_number ls x n p)) ∙ ap (λ (z : List FaultLine). u ++ z) (sym (append-nil line_at))

  pub label_missing : (v : List FaultLine) → position (same_label x) ls ≡ None → v ≡ u ++ dangling (λ _. false) (file_of files t.label) t.line x → v ≡ u ++ dangling_to ls files t (x ∷ [])
  label_missing v p g =
      g ∙ ap (λ (z : List FaultLine). u ++ z) (unknown_label (has_label ls) (file_of files t.label) x t.line u (has_no_number ls x p) ∙ sym (append-nil line_at))

-- ---- the lines of targets are those of the first of them and those of the rest

pub lines_cut : (ls files : List LabelParts) (k : ℕ) (ts : List Target) → dangling_from ls files ts ≡ dangling_from ls files (take k ts) ++ dangling_from ls files (drop k ts)
lines_cut ls files k ts = ap (dangling_from ls files) (sym (take-append-drop k ts)) ∙ flat_map-append (dangling_at ls files) (take k ts) (drop k ts)

-- ---- in words

none_in : {X : Type 0} (z : X) → Contains [] z → ⊥
none_in z c = omega arith

record IsLine (known : LabelParts → Bool) (b l : LabelParts) (n : ℕ) (x : FaultLine) : Type 0 where
  elsewhere : is_of (package_of b) l ≡ false
  missing : known l ≡ false
  line : x ≡ dangling_line b n l

line_of : (known : LabelParts → Bool) (b l : LabelParts) (n : ℕ) (x : FaultLine) (own has : Bool) → is_of (package_of b) l ≡ own → known l ≡ has → Contains (if own then [] else (if has then [] else dangling_line b n l ∷ [])) x → IsLine known b l n x
line_of known b l n x true has e f c = absurd (none_in x c)
line_of known b l n x false true e f c = absurd (none_in x c)
line_of known b l n x false false e f c = elim (head_or_tail (dangling_line b n l) [] x c) [
  | inl same ↦ record { elsewhere = e; missing = f; line = sym same }
  | inr never ↦ absurd (none_in x never)
]

line_in : (known : LabelParts → Bool) (b l : LabelParts) (n : ℕ) (x : FaultLine) → IsLine known b l n x → Contains (dangling known b n l) x
unfolding dangling
line_in known b l n x r =
    let there : Contains (dangling_line b n l ∷ []) x = subst (λ (z : FaultLine). Contains (dangling_line b n l ∷ []) z) (sym r.line) (at_head (dangling_line b n l) []) in
    rw (r.elsewhere, r.missing) there

to_words : (ps : List PackageTargets) (x : FaultLine) → Contains (all_dangling ps) x → IsDangling ps x
unfolding all_dangling dangling
to_words ps x c =
    let known : LabelParts → Bool = has_label (target_labels (all_targets ps)) in
    let p = in_flat (dangling_of known) ps x c in
    let t = in_flat (dangling_in known p.part.build_file) p.part.targets x p.inside in
    let l = in_flat (dangling known p.part.build_file t.part.line) (dependencies t.part) x t.inside in
    let r = line_of known p.part.build_file l.part t.part.line x (is_of (package_of p.part.build_file) l.part) (known l.part) refl refl l.inside in
    record { owner = p.part; known = p.known; target = t.part; declared = t.known; label = l.part; named = l.known; elsewhere = r.elsewhere; missing = r.missing; line = r.line }

from_words : (ps : List PackageTargets) (x : FaultLine) → IsDangling ps x → Contains (all_dangling ps) x
unfolding all_dangling
from_words ps x r =
    let known : LabelParts → Bool = has_label (target_labels (all_targets ps)) in
    let b : LabelParts = r.owner.build_file in
    let here : Contains (dangling known b r.target.line r.label) x = line_in known b r.label r.target.line x (record { elsewhere = r.elsewhere; missing = r.missing; line = r.line }) in
    flat_in (dangling_of known) ps r.owner x r.known (flat_in (dangling_in known b) r.owner.targets r.target x r.declared (flat_in (dangling known b r.target.line) (dependencies r.target) r.label x r.named here))

pub in_words : (ps : List PackageTargets) (x : FaultLine) → Contains (all_dangling ps) x ↔ IsDangling ps x
in_words ps x = (to_words ps x, from_words ps x)

-- ---- target by target

-- the BUILD file of the package that has a target
module _ (l : LabelParts) (p : PackageTargets) (here : package_of l ≡ id_of p) where
  is_file : (b : Bool) (q : PackageTargets) (rest : Option LabelParts) → b ≡ is_of (package_of l) q.build_file → q ≡ p → cond b (Some q.build_file) rest ≡ Some p.build_file
  is_file b q rest e same =
      let one : id_of q ≡ package_of l = ap id_of same ∙ sym here in
      let tied : id_cmp (id_of q) (package_of l) ≡ Equal = ap (λ (z : PackageParts). id_cmp z (package_of l)) one ∙ tied_itself by_id (package_of l) in
      let yes : b ≡ true = e ∙ (of_package (package_of l) q.build_file ∙ ap is_eq tied) in
      rw yes (ap (λ (z : PackageTargets). Some z.build_file) same)

  find_file : (ps : List PackageTargets) → PackagesAscend ps → Contains ps p → find (is_of (package_of l)) (build_files ps) ≡ Some p.build_file
  find_file [] o c = absurd (none_in p c)
  find_file (q ∷ qs) o c = elim (head_or_tail q qs p c) [
    | inl same ↦ is_file (is_of (package_of l) q.build_file) q (find (is_of (package_of l)) (build_files qs)) refl same
    | inr later ↦
        let by_package : PackageTargets → PackageTargets → Ordering = λ a b. id_cmp (id_of a) (id_of b) in
        let less : id_cmp (id_of q) (id_of p) ≡ Less =
        All-contains (λ (z : PackageTargets). id_cmp (id_of q) (id_of z) ≡ Less) qs p (All-from_recursion (λ (z : PackageTargets). id_cmp (id_of q) (id_of z) ≡ Less) qs (sorted_head by_package q qs o)) later in
        let below : id_cmp (id_of q) (package_of l) ≡ Less = ap (λ (z : PackageParts). id_cmp (id_of q) z) here ∙ less in
        let other : is_of (package_of l) q.build_file ≡ false = of_package (package_of l) q.build_file ∙ ap is_eq below in
        rw other (find_file qs (sorted_tail by_package q qs o) later)
  ]

  pub file_is : (ps : List PackageTargets) → PackagesAscend ps → Contains ps p → file_of (build_files ps) l ≡ p.build_file
  unfolding file_of
  file_is ps o c = ap (λ (z : Option LabelParts). unwrap_or z l) (find_file ps o c)

module _ (ps : List PackageTargets) (o : PackagesAscend ps) (v : All (λ p. AreTargetsOf (id_of p) p.targets) ps) (ts : List Target) (m : IsPermutation (all_targets ps) ts) where
  file_at : (p : PackageTargets) → Contains ps p → (t : Target) → Contains p.targets t → file_of (build_files ps) t.label ≡ p.build_file
  file_at p c t d =
      let own = All-contains (λ (q : PackageTargets). AreTargetsOf (id_of q) q.targets) ps p v c in
      let inside : is_of (id_of p) t.label ≡ true = All-contains (λ (z : Target). is_of (id_of p) z.label ≡ true) p.targets t (AllPass-from_list_all (λ (z : Target). is_of (id_of p) z.label) p.targets own.inside) d in
      file_is t.label p (own_package (id_of p) t.label inside) ps o c

  abbrev found : List FaultLine
  found = dangling_from (target_labels ts) (build_files ps) ts

  found_dangles : (x : FaultLine) → Contains found x → Contains (all_dangling ps) x
  unfolding dangling
  found_dangles x c =
      let known : LabelParts → Bool = has_label (target_labels ts) in
      let t = in_flat (dangling_at (target_labels ts) (build_files ps)) ts x c in
      let b : LabelParts = file_of (build_files ps) t.part.label in
      let l = in_flat (dangling known b t.part.line) (looked_up t.part) x t.inside in
      let r = line_of known b l.part t.part.line x (is_of (package_of b) l.part) (known l.part) refl refl l.inside in
      let p = in_flat (λ (p : PackageTargets). p.targets) ps t.part (Contains-permutation ts (all_targets ps) t.part (IsPermutation-sym (all_targets ps) ts m) t.known) in
      let file : b ≡ p.part.build_file = file_at p.part p.known t.part p.inside in
      from_words ps x (record {
        owner = p.part;
        known = p.known;
        target = t.part;
        declared = p.inside;
        label = l.part;
        named = (is_looked_up t.part l.part).1 l.known;
        elsewhere = ap (λ (z : LabelParts). is_of (package_of z) l.part) (sym file) ∙ r.elsewhere;
        missing = same_known (all_targets ps) ts m l.part ∙ r.missing;
        line = r.line ∙ ap (λ (z : LabelParts). dangling_line z t.part.line l.part) file;
      })

  dangles_found : (x : FaultLine) → Contains (all_dangling ps) x → Contains found x
  dangles_found x c =
      let known : LabelParts → Bool = has_label (target_labels ts) in
      let r = to_words ps x c in
      let t : Target = r.target in
      let b : LabelParts = file_of (build_files ps) t.label in
      let file : b ≡ r.owner.build_file = file_at r.owner r.known t r.declared in
      let there : Contains ts t = Contains-permutation (all_targets ps) ts t m (flat_in (λ (p : PackageTargets). p.targets) ps r.owner t r.known r.declared) in
      let here : Contains (dangling known b t.line r.label) x = line_in known b r.label t.line x (record {
        elsewhere = ap (λ (z : LabelParts). is_of (package_of z) r.label) file ∙ r.elsewhere;
        missing = sym (same_known (all_targets ps) ts m r.label) ∙ r.missing;
        line = r.line ∙ ap (λ (z : LabelParts). dangling_line z t.line r.label) (sym file);
      }) in
      flat_in (dangling_at (target_labels ts) (build_files ps)) ts t x there (flat_in (dangling known b t.line) (looked_up t) r.label x ((is_looked_up t r.label).0 r.named) here)

  -- the lines that are found are those of the packages
  pub found_lines : sorted_lines found ≡ dangling_lines ps
  found_lines = one_order (all_dangling ps) (sorted_lines found) (ascending found) (λ x.
      let same = same_lines found x in
      (λ c. found_dangles x (same.0 c), λ c. same.1 (dangles_found x c)))
