-- A label that is named many times in a row is looked up once, and so each label that a target depends on is.
use Rattle.std.proofs.Common.{◌≡◌, ◌<◌, ◌≤◌, ◌+◌, ◌∙◌, ◌⊎◌, ◌↔◌, ℕ, Bool, true, false, List, [], ◌∷◌, ◌++◌, Option, Some, None, length, drop, get_or, if◌then◌else◌, refl, sym, ap, subst, inl, inr, arith, append_assoc, append-nil}
use Rattle.std.specs.List.{flat_map, Contains}
use Rattle.std.proofs.lemmas.Bool.{cases_Bool, false≢true}
use Rattle.std.proofs.lemmas.List.{drop_more, drop_all}
use Rattle.std.proofs.lemmas.List.Elements.{Contains-append_cases, Contains-append_left, Contains-append_right}
use Rattle.bq_label.specs.Label.{LabelParts}
use Rattle.bq_label.proofs.Orders.{at_head, in_tail, head_or_tail}
use Rattle.bq_value_datum.specs.AttributeValue.{labels_of}
use Rattle.bq_package_target.specs.declared.target.Target.{Target}
use Rattle.bq_package_target.specs.declared.target.TargetKind.{TargetKind}
use Rattle.bq_package_target.specs.declared.target.TargetKind.TheVariants as k
use Rattle.bq_package_target.specs.declared.value.GivenAttribute.{GivenAttribute}
use Rattle.bq_package_target.specs.Value.{labels_in}
use Rattle.bq_package_target.specs.Target.{dependencies}
use Rattle.bq_package_target.proofs.Cases.{dependencies_by}
use Rattle.bq_label_set.specs.Labels.{same_label-Decides}
use Rattle.bq_query_target_graph.specs.Edges.{repeats, unrepeated, looked_up}

-- ---- elements of lists that elements give

none_in : {X : Type 0} (z : X) → Contains [] z → ⊥
none_in z c = omega arith

pub record InPart {X Y : Type 0} (f : X → List Y) (xs : List X) (y : Y) : Type 0 where
  pub part : X
  pub known : Contains xs part
  pub inside : Contains (f part) y

pub in_flat : {X Y : Type 0} (f : X → List Y) (xs : List X) (y : Y) → Contains (flat_map f xs) y → InPart f xs y
in_flat f [] y c = absurd (none_in y c)
in_flat f (x ∷ xs) y c = elim (Contains-append_cases (f x) (flat_map f xs) y c) [
  | inl here ↦ record { part = x; known = at_head x xs; inside = here }
  | inr later ↦ let r = in_flat f xs y later in record { part = r.part; known = in_tail x xs r.part r.known; inside = r.inside }
]

pub flat_in : {X Y : Type 0} (f : X → List Y) (xs : List X) (x : X) (y : Y) → Contains xs x → Contains (f x) y → Contains (flat_map f xs) y
flat_in f [] x y c d = absurd (none_in x c)
flat_in {X} {Y} f (z ∷ xs) x y c d = elim (head_or_tail z xs x c) [
  | inl e ↦ Contains-append_left (f z) (flat_map f xs) y (subst (λ (w : X). Contains (f w) y) (sym e) d)
  | inr later ↦ Contains-append_right (f z) (flat_map f xs) y (flat_in f xs x y later d)
]

-- ---- labels in a row

abbrev after : Bool → Option LabelParts → LabelParts → List LabelParts → List LabelParts
after b before x ls = if b then unrepeated before ls else x ∷ unrepeated (Some x) ls

cut : (before : Option LabelParts) (x : LabelParts) (ls : List LabelParts) (b : Bool) → repeats before x ≡ b → unrepeated before (x ∷ ls) ≡ after b before x ls
unfolding unrepeated
cut before x ls b e = ap (λ (c : Bool). after c before x ls) e

no_more : (before : Option LabelParts) → unrepeated before [] ≡ []
unfolding unrepeated
no_more before = refl

same_before : (before : Option LabelParts) (x : LabelParts) → repeats before x ≡ true → before ≡ Some x
same_before None x r = absurd (false≢true r)
same_before (Some y) x r = ap Some ((same_label-Decides y x).0 r)

one_label : (x l : LabelParts) → Some x ≡ Some l → x ≡ l
one_label x l e = cc

not_there : (l : LabelParts) → None ≡ Some l → ⊥
not_there l e = cc

kept_of : (before : Option LabelParts) (ls : List LabelParts) (l : LabelParts) → Contains (unrepeated before ls) l → Contains ls l
kept_of before [] l c = absurd (none_in l (subst (λ (z : List LabelParts). Contains z l) (no_more before) c))
kept_of before (x ∷ ls) l c = elim (cases_Bool (repeats before x)) [
  | inl r ↦ in_tail x ls l (kept_of before ls l (subst (λ (z : List LabelParts). Contains z l) (cut before x ls true r) c))
  | inr r ↦ elim (head_or_tail x (unrepeated (Some x) ls) l (subst (λ (z : List LabelParts). Contains z l) (cut before x ls false r) c)) [
    | inl e ↦ subst (λ (z : LabelParts). Contains (x ∷ ls) z) e (at_head x ls)
    | inr d ↦ in_tail x ls l (kept_of (Some x) ls l d)
  ]
]

of_kept : (ls : List LabelParts) (before : Option LabelParts) (l : LabelParts) → Contains ls l → (before ≡ Some l) ⊎ Contains (unrepeated before ls) l
of_kept [] before l c = absurd (none_in l c)
of_kept (x ∷ ls) before l c = elim (cases_Bool (repeats before x)) [
  | inl r ↦
      let back : Contains (unrepeated before ls) l → Contains (unrepeated before (x ∷ ls)) l = λ d. subst (λ (z : List LabelParts). Contains z l) (sym (cut before x ls true r)) d in
      elim (head_or_tail x ls l c) [
        | inl e ↦ inl (same_before before x r ∙ ap Some e)
        | inr d ↦ elim (of_kept ls before l d) [ inl e ↦ inl e | inr there ↦ inr (back there) ]
      ]
  | inr r ↦
      let rest : List LabelParts = unrepeated (Some x) ls in
      let first : x ≡ l → Contains (x ∷ rest) l = λ e. subst (λ (z : LabelParts). Contains (x ∷ rest) z) e (at_head x rest) in
      let there : Contains (x ∷ rest) l = elim (head_or_tail x ls l c) [
        | inl e ↦ first e
        | inr d ↦ elim (of_kept ls (Some x) l d) [ inl e ↦ first (one_label x l e) | inr later ↦ in_tail x rest l later ]
      ] in
      inr (subst (λ (z : List LabelParts). Contains z l) (sym (cut before x ls false r)) there)
]

all_kept : (ls : List LabelParts) (l : LabelParts) → Contains ls l → Contains (unrepeated None ls) l
all_kept ls l c = elim (of_kept ls None l c) [ inl e ↦ absurd (not_there l e) | inr there ↦ there ]

-- ---- the labels of a target

by_kind : (o : TargetKind) (named other : List LabelParts) (l : LabelParts) → (Contains named l → Contains other l) → Contains (dependencies_by o named) l → Contains (dependencies_by o other) l
by_kind (k.Rule name class) named other l f c = f c
by_kind (k.Generated rule) named other l f c = c
by_kind k.Group named other l f c = f c
by_kind k.Source named other l f c = f c

abbrev in_a_row : GivenAttribute → List LabelParts
in_a_row a = unrepeated None (labels_of a.value)

pub is_looked_up : (t : Target) (l : LabelParts) → Contains (dependencies t) l ↔ Contains (looked_up t) l
unfolding dependencies looked_up
is_looked_up t l = (
  by_kind t.kind (labels_in t.attributes) (flat_map in_a_row t.attributes) l (λ c.
      let r = in_flat (λ (a : GivenAttribute). labels_of a.value) t.attributes l c in
      flat_in in_a_row t.attributes r.part l r.known (all_kept (labels_of r.part.value) l r.inside)),
  by_kind t.kind (flat_map in_a_row t.attributes) (labels_in t.attributes) l (λ c.
      let r = in_flat in_a_row t.attributes l c in
      flat_in (λ (a : GivenAttribute). labels_of a.value) t.attributes r.part l r.known (kept_of None (labels_of r.part.value) l r.inside)),
)

-- ---- one step along the labels of an attribute, of which each gives a list

module _ {Y : Type 0} (f : LabelParts → List Y) (before : Option LabelParts) (xs : List LabelParts) (i : ℕ) where
  rest : (x : LabelParts) → i < length xs → x ≡ get_or xs i x → drop i xs ≡ x ∷ drop (i + 1) xs
  rest x h e = drop_more xs i x h ∙ ap (λ (z : LabelParts). z ∷ drop (i + 1) xs) (sym e)

  pub passed_over : (x : LabelParts) (es all : List Y) → i < length xs → x ≡ get_or xs i x → repeats before x ≡ true → es ++ flat_map f (unrepeated before (drop i xs)) ≡ all
      → es ++ flat_map f (unrepeated before (drop (i + 1) xs)) ≡ all
  passed_over x es all h e r a =
      ap (λ (z : List LabelParts). es ++ flat_map f z) (sym (cut before x (drop (i + 1) xs) true r)) ∙ (ap (λ (z : List LabelParts). es ++ flat_map f (unrepeated before z)) (sym (rest x h e)) ∙ a)

  pub taken_in : (x : LabelParts) (es fs all : List Y) → i < length xs → x ≡ get_or xs i x → repeats before x ≡ false → es ++ flat_map f (unrepeated before (drop i xs)) ≡ all → fs ≡ es ++ flat_map f (x ∷ [])
      → fs ++ flat_map f (unrepeated (Some x) (drop (i + 1) xs)) ≡ all
  taken_in x es fs all h e r a g =
      let later : List LabelParts = unrepeated (Some x) (drop (i + 1) xs) in
      ap (λ (z : List Y). z ++ flat_map f later) (g ∙ ap (λ (z : List Y). es ++ z) (append-nil (f x)))
      ∙ (append_assoc es (f x) (flat_map f later)
      ∙ (ap (λ (z : List LabelParts). es ++ flat_map f z) (sym (cut before x (drop (i + 1) xs) false r)) ∙ (ap (λ (z : List LabelParts). es ++ flat_map f (unrepeated before z)) (sym (rest x h e)) ∙ a)))

  pub all_taken : (es all : List Y) → length xs ≤ i → es ++ flat_map f (unrepeated before (drop i xs)) ≡ all → es ≡ all
  all_taken es all h a =
      sym (append-nil es) ∙ (ap (λ (z : List LabelParts). es ++ flat_map f z) (sym (ap (unrepeated before) (drop_all i xs h) ∙ no_more before)) ∙ a)
