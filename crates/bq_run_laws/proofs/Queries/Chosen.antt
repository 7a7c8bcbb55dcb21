-- What is chosen, target by target.
use Rattle.std.proofs.Common.{◌≡◌, ◌≢◌, ◌∙◌, ◌↔◌, ◌⊎◌, ◌||◌, ℕ, zero, suc, Bool, true, false, List, [], ◌∷◌, ◌++◌, cond, Option, Some, None, slice_get, bytes_eq, is_some, if◌then◌else◌, IsSomeAnd, inl, inr, refl, sym, ap, subst}
use Rattle.std.specs.List.{AllByRecursion, Contains, find}
use Rattle.std.specs.Option.{option_and_then}
use Rattle.std.proofs.lemmas.Bool.{false≢true}
use Rattle.std.proofs.lemmas.Slice.Eq.{bytes_eq-Decides}
use Rattle.bq_label.specs.Label.{LabelParts, full_form}
use Rattle.bq_label.proofs.Orders.{at_head, in_tail, head_or_tail}
use Rattle.bq_query_pattern.specs.Patterns.{is_found}
use Rattle.bq_query_check.specs.Formula.{Formula}
use Rattle.bq_value_datum.specs.Class.{Class}
use Rattle.bq_value_datum.specs.declared.attribute_value.AttributeValue.{AttributeValue}
use Rattle.bq_value_datum.specs.declared.attribute_value.AttributeValue.TheVariants as v
use Rattle.bq_package_target.specs.declared.target.Target.{Target}
use Rattle.bq_package_target.specs.declared.target.TargetKind.{TargetKind}
use Rattle.bq_package_target.specs.declared.target.TargetKind.TheVariants as k
use Rattle.bq_package_target.specs.declared.value.GivenAttribute.{GivenAttribute}
use Rattle.bq_package_target.proofs.Writing.{none_in}
use Rattle.bq_value_datum.specs.AttributeValue.{all_labels_of, value_text}
use Rattle.bq_query_function.specs.Labels.{labels_named, is_among}
use Rattle.bq_query_function.specs.Matching.{is_match, has_kind, has_text, has_attribute}
use Rattle.bq_query_function.specs.Order.{is_text}
use Rattle.bq_query_function.specs.Texts.{kind_text, given, text_by, attribute_text}
use Rattle.bq_query_function.specs.Words.{Those}
use Rattle.bq_query.specs.Stands.{Bound}
use Rattle.bq_query_target_graph.specs.Graph.{GraphParts}
use Rattle.bq_run_laws.specs.Queries.Chosen.{IsTargetWith, IsKind, KindMatches, HoldsLabel, FirstGiven, IsAttributeText, AttributeMatches, RuleNames, Choose}

-- ---- tests of targets

same_some : {A : Type 0} (x y : A) → Some x ≡ Some y → x ≡ y
same_some x y e = cc

none_some : {A : Type 0} (x : A) → None ≡ Some x → ⊥
none_some x e = cc

-- those that pass a test are the targets with this property
those : (test : Target → Bool) (ts : List Target) (y : ℕ) → Those test ts y ↔ IsTargetWith ts y (λ t. test t ≡ true)
those test [] y = (λ h. absurd (false≢true h), λ h. absurd (none_some h.0 h.1))
those test (t ∷ ts) zero = (λ h. (t, refl, h), λ h. subst (λ (u : Target). test u ≡ true) (sym (same_some t h.0 h.1)) h.2)
those test (t ∷ ts) (suc y) = those test ts y

with_other : (ts : List Target) (y : ℕ) (P Q : Target → Type 0) → ((t : Target) → P t → Q t) → IsTargetWith ts y P → IsTargetWith ts y Q
with_other ts y P Q f h = (h.0, h.1, f h.0 h.2)

-- the property in other words
those_with : (test : Target → Bool) (P : Target → Type 0) → ((t : Target) → (test t ≡ true) ↔ P t) → (ts : List Target) (y : ℕ) → Those test ts y ↔ IsTargetWith ts y P
those_with test P same ts y = (
  λ h. with_other ts y (λ t. test t ≡ true) P (λ t. (same t).0) ((those test ts y).0 h),
  λ h. (those test ts y).1 (with_other ts y P (λ t. test t ≡ true) (λ t. (same t).1) h),
)

some_with : (ts : List Target) (y : ℕ) (P : Target → Type 0) → IsSomeAnd (slice_get ts y) P ↔ IsTargetWith ts y P
some_with ts y P = by (slice_get ts y) refl
  where
    by : (o : Option Target) → slice_get ts y ≡ o → IsSomeAnd (slice_get ts y) P ↔ IsTargetWith ts y P
    by None e = (λ h. absurd (subst (λ (x : Option Target). IsSomeAnd x P) e h), λ h. absurd (none_some h.0 (sym e ∙ h.1)))
    by (Some t) e = (
      λ h. (t, e, subst (λ (x : Option Target). IsSomeAnd x P) e h),
      λ h. subst (λ (x : Option Target). IsSomeAnd x P) (sym h.1) h.2,
    )

-- ---- kinds

kind_is : (t : Target) → IsKind t (kind_text t.kind)
unfolding kind_text
kind_is t = by t.kind refl
  where
    by : (kind : TargetKind) → t.kind ≡ kind → IsKind t (kind_text kind)
    by (k.Rule name class) e = IsKind.rule name class e refl
    by k.Source e = IsKind.source e refl
    by (k.Generated rule) e = IsKind.generated rule e refl
    by k.Group e = IsKind.group e refl

one_kind : (t : Target) (text : List ℕ) → IsKind t text → kind_text t.kind ≡ text
unfolding kind_text
one_kind t text (IsKind.rule name class e f) = ap kind_text e ∙ sym f
one_kind t text (IsKind.source e f) = ap kind_text e ∙ sym f
one_kind t text (IsKind.generated rule e f) = ap kind_text e ∙ sym f
one_kind t text (IsKind.group e f) = ap kind_text e ∙ sym f

kind_matches : (pattern : List ℕ) (t : Target) → (has_kind pattern t ≡ true) ↔ KindMatches pattern t
kind_matches pattern t = (λ h. (kind_text t.kind, kind_is t, h), λ h. subst (λ (x : List ℕ). is_found pattern x ≡ true) (sym (one_kind t h.0 h.1)) h.2)

-- ---- labels of attributes

alone : {X : Type 0} (x z : X) → Contains (x ∷ []) z → x ≡ z
alone x z c = elim (head_or_tail x [] z c) [ inl e ↦ e | inr later ↦ absurd (none_in z later) ]

value_holds : (value : AttributeValue) (l : LabelParts) → Contains (all_labels_of value) l → HoldsLabel l value
value_holds (v.Label m) l c = HoldsLabel.label (ap v.Label (alone m l c))
value_holds (v.LabelList ms) l c = HoldsLabel.labels ms refl c
value_holds (v.Output m) l c = HoldsLabel.output (ap v.Output (alone m l c))
value_holds (v.OutputList ms) l c = HoldsLabel.outputs ms refl c
value_holds _ l c = absurd (none_in l c)

holds_value : (value : AttributeValue) (l : LabelParts) → HoldsLabel l value → Contains (all_labels_of value) l
holds_value value l (HoldsLabel.label e) = subst (λ w. Contains (all_labels_of w) l) (sym e) (at_head l [])
holds_value value l (HoldsLabel.labels ls e c) = subst (λ w. Contains (all_labels_of w) l) (sym e) c
holds_value value l (HoldsLabel.output e) = subst (λ w. Contains (all_labels_of w) l) (sym e) (at_head l [])
holds_value value l (HoldsLabel.outputs ls e c) = subst (λ w. Contains (all_labels_of w) l) (sym e) c

-- the first of some attributes that has this name
record First (all : List GivenAttribute) (name : List ℕ) (a : GivenAttribute) : Type 0 where
  before : List GivenAttribute
  after : List GivenAttribute
  given : all ≡ before ++ a ∷ after
  named : a.name ≡ name
  first : AllByRecursion (λ b. b.name ≢ name) before

found_by : (name : List ℕ) (b : GivenAttribute) (all : List GivenAttribute) (a : GivenAttribute) (t : Bool) → bytes_eq b.name name ≡ t
    → (find (λ c. bytes_eq c.name name) all ≡ Some a → First all name a) → cond t (Some b) (find (λ c. bytes_eq c.name name) all) ≡ Some a → First (b ∷ all) name a
found_by name b all a true h later e =
    let same = same_some b a e in record {
      before = [];
      after = all;
      given = ap (λ (c : GivenAttribute). c ∷ all) same;
      named = ap (λ (c : GivenAttribute). c.name) (sym same) ∙ (bytes_eq-Decides b.name name).0 h;
      first = tt;
    }
found_by name b all a false h later e =
    let r = later e in record {
      before = b ∷ r.before;
      after = r.after;
      given = ap (λ (cs : List GivenAttribute). b ∷ cs) r.given;
      named = r.named;
      first = (λ same. false≢true (sym h ∙ (bytes_eq-Decides b.name name).1 same), r.first);
    }

found : (name : List ℕ) (all : List GivenAttribute) (a : GivenAttribute) → find (λ b. bytes_eq b.name name) all ≡ Some a → First all name a
found name [] a e = absurd (none_some a e)
found name (b ∷ all) a e = found_by name b all a (bytes_eq b.name name) refl (found name all a) e

is_false : (b : Bool) → (b ≡ true → ⊥) → b ≡ false
is_false true h = absurd (h refl)
is_false false h = refl

finds : (name : List ℕ) (before after : List GivenAttribute) (a : GivenAttribute) → a.name ≡ name → AllByRecursion (λ b. b.name ≢ name) before
    → find (λ b. bytes_eq b.name name) (before ++ a ∷ after) ≡ Some a
finds name [] after a e h = ap (λ t. cond t (Some a) (find (λ b. bytes_eq b.name name) after)) ((bytes_eq-Decides a.name name).1 e)
finds name (b ∷ bs) after a e h =
    ap (λ t. cond t (Some b) (find (λ c. bytes_eq c.name name) (bs ++ a ∷ after))) (is_false (bytes_eq b.name name) (λ t. h.0 ((bytes_eq-Decides b.name name).0 t)))
    ∙ finds name bs after a e h.1

-- ---- texts of attributes

none_by : (name : List ℕ) (b : GivenAttribute) (all : List GivenAttribute) (t : Bool) → bytes_eq b.name name ≡ t
    → (find (λ c. bytes_eq c.name name) all ≡ None → AllByRecursion (λ c. c.name ≢ name) all) → cond t (Some b) (find (λ c. bytes_eq c.name name) all) ≡ None
    → AllByRecursion (λ c. c.name ≢ name) (b ∷ all)
none_by name b all true h later e = absurd (none_some b (sym e))
none_by name b all false h later e = (λ same. false≢true (sym h ∙ (bytes_eq-Decides b.name name).1 same), later e)

none_given : (name : List ℕ) (all : List GivenAttribute) → find (λ c. bytes_eq c.name name) all ≡ None → AllByRecursion (λ c. c.name ≢ name) all
none_given name [] e = tt
none_given name (b ∷ all) e = none_by name b all (bytes_eq b.name name) refl (none_given name all) e

finds_none : (name : List ℕ) (all : List GivenAttribute) → AllByRecursion (λ c. c.name ≢ name) all → find (λ c. bytes_eq c.name name) all ≡ None
finds_none name [] h = refl
finds_none name (b ∷ bs) h =
    ap (λ t. cond t (Some b) (find (λ c. bytes_eq c.name name) bs)) (is_false (bytes_eq b.name name) (λ t. h.0 ((bytes_eq-Decides b.name name).0 t)))
    ∙ finds_none name bs h.1

-- of a target of this kind
abbrev class_by : TargetKind → Option Class
class_by kind = elim kind [ k.Rule rule class ↦ Some class | _ ↦ None ]

abbrev attribute_by : TargetKind → List ℕ → Target → Option (List ℕ)
attribute_by kind name t = option_and_then (λ class. text_by (given name t) class name) (class_by kind)

attribute_is : (name : List ℕ) (t : Target) (text : List ℕ) → attribute_text name t ≡ Some text → IsAttributeText t name text
unfolding attribute_text
attribute_is name t text same = by t.kind refl same
  where
    by_given : (kind_name : List ℕ) (class : Class) → t.kind ≡ k.Rule kind_name class → (o : Option GivenAttribute) → given name t ≡ o → text_by o class name ≡ Some text
        → IsAttributeText t name text
    by_given kind_name class e None f h = IsAttributeText.blank kind_name class e (none_given name t.attributes f) h
    by_given kind_name class e (Some a) f h =
        let r = found name t.attributes a f in
        let gives : FirstGiven t name a = record { before = r.before; after = r.after; given = r.given; named = r.named; first = r.first } in
        IsAttributeText.valued kind_name class a e gives (same_some text (value_text a.value) (sym h))

    by : (kind : TargetKind) → t.kind ≡ kind → attribute_by kind name t ≡ Some text → IsAttributeText t name text
    by (k.Rule kind_name class) e h = by_given kind_name class e (given name t) refl h
    by k.Source e h = absurd (none_some text h)
    by (k.Generated rule) e h = absurd (none_some text h)
    by k.Group e h = absurd (none_some text h)

one_attribute : (name : List ℕ) (t : Target) (text : List ℕ) → IsAttributeText t name text → attribute_text name t ≡ Some text
unfolding attribute_text
one_attribute name t text (IsAttributeText.valued kind_name class a e g f) =
    let same : given name t ≡ Some a = ap (find (λ b. bytes_eq b.name name)) g.given ∙ finds name g.before g.after a g.named g.first in
    ap (λ kind. attribute_by kind name t) e ∙ (ap (λ (o : Option GivenAttribute). text_by o class name) same ∙ ap (λ (x : List ℕ). Some x) (sym f))
one_attribute name t text (IsAttributeText.blank kind_name class e h d) =
    ap (λ kind. attribute_by kind name t) e ∙ (ap (λ (o : Option GivenAttribute). text_by o class name) (finds_none name t.attributes h) ∙ d)

attribute_matches : (pattern name : List ℕ) (t : Target) → (has_attribute name pattern t ≡ true) ↔ AttributeMatches pattern name t
attribute_matches pattern name t = (λ h. matched (attribute_text name t) refl h, λ h. ap (is_match pattern) (one_attribute name t h.0 h.1) ∙ h.2)
  where
    matched : (o : Option (List ℕ)) → attribute_text name t ≡ o → is_match pattern o ≡ true → AttributeMatches pattern name t
    matched None e h = absurd (false≢true h)
    matched (Some text) e h = (text, attribute_is name t text e, h)

-- ---- labels of an attribute

-- an attribute of a rule has the label
record Named (name : List ℕ) (r : Target) (l : LabelParts) : Type 0 where
  name_of_kind : List ℕ
  class : Class
  rule : r.kind ≡ k.Rule name_of_kind class
  attribute : GivenAttribute
  gives : FirstGiven r name attribute
  holds : HoldsLabel l attribute.value

abbrev labels_by : Option GivenAttribute → List LabelParts
labels_by o = elim o [ Some a ↦ all_labels_of a.value | None ↦ [] ]

abbrev named_by : TargetKind → List ℕ → Target → List LabelParts
named_by kind name t = if is_some (class_by kind) then labels_by (given name t) else []

named : (name : List ℕ) (r : Target) (l : LabelParts) → Contains (labels_named name r) l → Named name r l
unfolding labels_named
named name r l c = by r.kind refl c
  where
    by_given : (kind_name : List ℕ) (class : Class) → r.kind ≡ k.Rule kind_name class → (o : Option GivenAttribute) → given name r ≡ o → Contains (labels_by o) l → Named name r l
    by_given kind_name class e None f h = absurd (none_in l h)
    by_given kind_name class e (Some a) f h =
        let r = found name r.attributes a f in record {
          name_of_kind = kind_name;
          class = class;
          rule = e;
          attribute = a;
          gives = record { before = r.before; after = r.after; given = r.given; named = r.named; first = r.first };
          holds = value_holds a.value l h;
        }

    by : (kind : TargetKind) → r.kind ≡ kind → Contains (named_by kind name r) l → Named name r l
    by (k.Rule kind_name class) e h = by_given kind_name class e (given name r) refl h
    by k.Source e h = absurd (none_in l h)
    by (k.Generated rule) e h = absurd (none_in l h)
    by k.Group e h = absurd (none_in l h)

is_named : (name : List ℕ) (r : Target) (l : LabelParts) → Named name r l → Contains (labels_named name r) l
unfolding labels_named
is_named name r l n =
    let g = n.gives in
    let same : given name r ≡ Some n.attribute = ap (find (λ b. bytes_eq b.name name)) g.given ∙ finds name g.before g.after n.attribute g.named g.first in
    subst (λ kind. Contains (named_by kind name r) l) (sym n.rule) (subst (λ (o : Option GivenAttribute). Contains (labels_by o) l) (sym same) (holds_value n.attribute.value l n.holds))

-- ---- the target of a label

or_cases : (a b : Bool) → (a || b) ≡ true → (a ≡ true) ⊎ (b ≡ true)
or_cases true b h = inl refl
or_cases false b h = inr h

or_left : (a b : Bool) → a ≡ true → (a || b) ≡ true
or_left true b h = refl
or_left false b h = absurd (false≢true h)

or_right : (a b : Bool) → b ≡ true → (a || b) ≡ true
or_right true b h = refl
or_right false b h = h

-- one of the labels has the target's full form
record Among (ls : List LabelParts) (t : Target) : Type 0 where
  label : LabelParts
  known : Contains ls label
  same : full_form label ≡ full_form t.label

among : (ls : List LabelParts) (t : Target) → is_among ls t ≡ true → Among ls t
among [] t h = absurd (false≢true h)
among (l ∷ ls) t h = elim (or_cases (is_text (full_form l) t) (is_among ls t) h) [
  | inl here ↦ record { label = l; known = at_head l ls; same = sym ((bytes_eq-Decides (full_form t.label) (full_form l)).0 here) }
  | inr later ↦ let r = among ls t later in record { label = r.label; known = in_tail l ls r.label r.known; same = r.same }
]

is_there : (ls : List LabelParts) (t : Target) (l : LabelParts) → Contains ls l → full_form l ≡ full_form t.label → is_among ls t ≡ true
is_there [] t l c e = absurd (none_in l c)
is_there (m ∷ ls) t l c e = elim (head_or_tail m ls l c) [
  | inl same ↦ or_left (is_text (full_form m) t) (is_among ls t) ((bytes_eq-Decides (full_form t.label) (full_form m)).1 (sym e ∙ ap full_form (sym same)))
  | inr later ↦ or_right (is_text (full_form m) t) (is_among ls t) (is_there ls t l later e)
]

rule_names : (name : List ℕ) (r t : Target) → (is_among (labels_named name r) t ≡ true) ↔ RuleNames name r t
rule_names name r t = (
  λ h.
      let a = among (labels_named name r) t h in
      let n = named name r a.label a.known in
      record { name_of_kind = n.name_of_kind; class = n.class; rule = n.rule; attribute = n.attribute; gives = n.gives; label = a.label; holds = n.holds; same = a.same },
  λ n.
      is_there (labels_named name r) t n.label
      (is_named name r n.label (record { name_of_kind = n.name_of_kind; class = n.class; rule = n.rule; attribute = n.attribute; gives = n.gives; holds = n.holds })) n.same,
)

-- ---- the functions

pub choose : (w : GraphParts) (a : Formula) (pattern name : List ℕ) (bound : Bound) (y : ℕ) → Choose w a pattern name bound y
choose w a pattern name bound y =
    let ts = w.targets in
    let kinds = those_with (has_kind pattern) (KindMatches pattern) (kind_matches pattern) ts y in
    let texts = those_with (has_text pattern) (λ t. is_found pattern (full_form t.label) ≡ true) (λ t. (λ h. h, λ h. h)) ts y in
    let attributes = those_with (has_attribute name pattern) (AttributeMatches pattern name) (attribute_matches pattern name) ts y in
    let of : (r : Target) → Those (is_among (labels_named name r)) ts y ↔ IsTargetWith ts y (RuleNames name r) =
    λ r. those_with (is_among (labels_named name r)) (RuleNames name r) (rule_names name r) ts y in
    let by : (z : ℕ) → IsSomeAnd (slice_get ts z) (λ r. Those (is_among (labels_named name r)) ts y) ↔ IsTargetWith ts z (λ r. Those (is_among (labels_named name r)) ts y) =
    λ z. some_with ts z (λ r. Those (is_among (labels_named name r)) ts y) in
    record {
      kind = (λ h. (h.0, kinds.0 h.1), λ h. (h.0, kinds.1 h.1));
      filter = (λ h. (h.0, texts.0 h.1), λ h. (h.0, texts.1 h.1));
      attr = (λ h. (h.0, attributes.0 h.1), λ h. (h.0, attributes.1 h.1));
      labels = (
        λ h.
            (h.0, h.1, with_other ts h.0 (λ r. Those (is_among (labels_named name r)) ts y) (λ r. IsTargetWith ts y (RuleNames name r)) (λ r. (of r).0) ((by h.0).0 h.2)),
        λ h.
            (h.0, h.1, (by h.0).1 (with_other ts h.0 (λ r. IsTargetWith ts y (RuleNames name r)) (λ r. Those (is_among (labels_named name r)) ts y) (λ r. (of r).1) h.2)),
      );
    }
