-- A target depends on just the labels that it writes.
use Rattle.std.proofs.Common.{◌≡◌, ◌∙◌, sym, ap, subst, refl, inl, inr, List, [], ◌∷◌, arith}
use Rattle.std.specs.List.{Contains}
use Rattle.std.proofs.lemmas.List.Elements.{Contains-append_cases, Contains-append_left, Contains-append_right}
use Rattle.bq_label.specs.Label.{LabelParts}
use Rattle.bq_label.proofs.Orders.{at_head, in_tail, head_or_tail}
use Rattle.bq_value_datum.specs.declared.attribute_value.AttributeValue.{AttributeValue}
use Rattle.bq_value_datum.specs.declared.attribute_value.AttributeValue.TheVariants as v
use Rattle.bq_package_target.specs.declared.target.Target.{Target}
use Rattle.bq_package_target.specs.declared.target.TargetKind.{TargetKind}
use Rattle.bq_package_target.specs.declared.target.TargetKind.TheVariants as k
use Rattle.bq_package_target.specs.declared.value.GivenAttribute.{GivenAttribute}
use Rattle.bq_value_datum.specs.AttributeValue.{labels_of}
use Rattle.bq_package_target.specs.Value.{labels_in}
use Rattle.bq_package_target.specs.Target.{dependencies}
use Rattle.bq_package_target.proofs.Cases.{dependencies_by}
use Rattle.bq_package_target.specs.Dependencies.{HasLabel, one, among, WritesLabel, Depends, on_its_rule, on_what_it_writes}

pub none_in : {X : Type 0} (z : X) → Contains [] z → ⊥
none_in z c = omega arith

-- the only element
alone : {X : Type 0} (x z : X) → Contains (x ∷ []) z → x ≡ z
alone x z c = elim (head_or_tail x [] z c) [ inl e ↦ e | inr later ↦ absurd (none_in z later) ]

-- ---- values

value_has : (value : AttributeValue) (l : LabelParts) → Contains (labels_of value) l → HasLabel l value
value_has (v.Label m) l c = one (ap v.Label (alone m l c))
value_has (v.LabelList ms) l c = among ms refl c
value_has _ l c = absurd (none_in l c)

has_value : (value : AttributeValue) (l : LabelParts) → HasLabel l value → Contains (labels_of value) l
has_value value l (one e) = subst (λ w. Contains (labels_of w) l) (sym e) (at_head l [])
has_value value l (among ls e c) = subst (λ w. Contains (labels_of w) l) (sym e) c

-- ---- attributes

record Given (given : List GivenAttribute) (l : LabelParts) : Type 0 where
  attribute : GivenAttribute
  known : Contains given attribute
  label : HasLabel l attribute.value

given_has : (given : List GivenAttribute) (l : LabelParts) → Contains (labels_in given) l → Given given l
given_has [] l c = absurd (none_in l c)
given_has (a ∷ given) l c = elim (Contains-append_cases (labels_of a.value) (labels_in given) l c) [
  | inl here ↦ record { attribute = a; known = at_head a given; label = value_has a.value l here }
  | inr later ↦ let r = given_has given l later in record { attribute = r.attribute; known = in_tail a given r.attribute r.known; label = r.label }
]

has_given : (given : List GivenAttribute) (l : LabelParts) (a : GivenAttribute) → Contains given a → HasLabel l a.value → Contains (labels_in given) l
has_given [] l a c h = absurd (none_in a c)
has_given (b ∷ given) l a c h = elim (head_or_tail b given a c) [
  | inl e ↦ Contains-append_left (labels_of b.value) (labels_in given) l (has_value b.value l (subst (λ (x : GivenAttribute). HasLabel l x.value) (sym e) h))
  | inr later ↦ Contains-append_right (labels_of b.value) (labels_in given) l (has_given given l a later h)
]

pub written : (t : Target) (l : LabelParts) → Contains (labels_in t.attributes) l → WritesLabel t l
written t l c = let g = given_has t.attributes l c in record { attribute = g.attribute; given = g.known; label = g.label }

pub writes : (t : Target) (l : LabelParts) → WritesLabel t l → Contains (labels_in t.attributes) l
writes t l w = has_given t.attributes l w.attribute w.given w.label

-- ---- dependencies

pub only_written : (t : Target) (l : LabelParts) → Contains (dependencies t) l → Depends t l
unfolding dependencies
only_written t l = by_kind t.kind refl
  where
    by_kind : (kind : TargetKind) → t.kind ≡ kind → Contains (dependencies_by kind (labels_in t.attributes)) l → Depends t l
    by_kind (k.Generated rule) e c = on_its_rule (e ∙ ap k.Generated (alone rule l c))
    by_kind (k.Rule name class) e c = on_what_it_writes (λ rule is. differ rule (sym e ∙ is)) (written t l c)
      where
        differ : (rule : LabelParts) → k.Rule name class ≡ k.Generated rule → ⊥
        differ rule h = cc
    by_kind k.Source e c = on_what_it_writes (λ rule is. differ rule (sym e ∙ is)) (written t l c)
      where
        differ : (rule : LabelParts) → k.Source ≡ k.Generated rule → ⊥
        differ rule h = cc
    by_kind k.Group e c = on_what_it_writes (λ rule is. differ rule (sym e ∙ is)) (written t l c)
      where
        differ : (rule : LabelParts) → k.Group ≡ k.Generated rule → ⊥
        differ rule h = cc

pub all_written : (t : Target) (l : LabelParts) → Depends t l → Contains (dependencies t) l
unfolding dependencies
all_written t l (on_its_rule e) = subst (λ kind. Contains (dependencies_by kind (labels_in t.attributes)) l) (sym e) (at_head l [])
all_written t l (on_what_it_writes other w) = by_kind t.kind refl
  where
    by_kind : (kind : TargetKind) → t.kind ≡ kind → Contains (dependencies_by kind (labels_in t.attributes)) l
    by_kind (k.Generated rule) e = absurd (other rule e)
    by_kind (k.Rule name class) e = writes t l w
    by_kind k.Source e = writes t l w
    by_kind k.Group e = writes t l w
