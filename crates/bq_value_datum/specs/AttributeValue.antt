-- The values of attributes (Bazel, "attr"; Bazel query reference, `attr`, `labels`): which labels they hold, how they are written, when two are
-- the same, of one type and equal in each part; and that they can be told apart. A type has its lines here.
use Rattle.std.specs.Prelude.{◌≡◌, ℕ, ℤ, pos, List, [], ◌∷◌, map, Bool, true, false, ◌&&◌, if◌then◌else◌, Option, Some, None, bytes_eq, codes, refl}
use Rattle.std.specs.Ordering.{int_eq}
use Rattle.std.specs.Fmt.{signed_decimal}
use Rattle.std.specs.Cmp.{signed_Decides}
use Rattle.std.specs.Cmp.Lexicographic.{pointwise}
use Rattle.std.specs.Coded.{Coded, code_by, coded_ℕ, coded_ℤ, coded_bool, coded_list, coded×, coded⊎}
use Rattle.std.proofs.Common.{◌∙◌, sym, ap, ◌⊎◌, inl, inr}
use lib.Pointwise.{bytes_decides, pointwise_decides}
use Rattle.bq_label.specs.Label.{LabelParts, full_form}
use Rattle.bq_predeclared.specs.declared.attribute_type.AttributeType.{AttributeType}
use Rattle.bq_predeclared.specs.declared.attribute_type.AttributeType.TheVariants as t
use Rattle.bq_value_datum.specs.declared.attribute_value.AttributeValue.{AttributeValue}
use Rattle.bq_value_datum.specs.declared.attribute_value.AttributeValue.TheVariants as v
use Rattle.bq_value_datum.specs.ListText.{list_text}

-- ---- what a value holds

-- the targets that a value names: those of types label and label_list alone
abbrev pub labels_of : AttributeValue → List LabelParts
labels_of (v.Label l) = l ∷ []
labels_of (v.LabelList ls) = ls
labels_of _ = []

-- the files that a value names as outputs
abbrev pub outputs_of : AttributeValue → List LabelParts
outputs_of (v.Output l) = l ∷ []
outputs_of (v.OutputList ls) = ls
outputs_of _ = []

-- all labels in a value, of targets and of outputs
abbrev pub all_labels_of : AttributeValue → List LabelParts
all_labels_of (v.Label l) = l ∷ []
all_labels_of (v.LabelList ls) = ls
all_labels_of (v.Output l) = l ∷ []
all_labels_of (v.OutputList ls) = ls
all_labels_of _ = []

-- the value names outputs, which have no defaults
abbrev pub names_outputs : AttributeValue → Bool
names_outputs (v.Output l) = true
names_outputs (v.OutputList ls) = true
names_outputs _ = false

-- a value that isn't of an output type names no files as outputs
pub no_outputs_of : (x : AttributeValue) → names_outputs x ≡ false → outputs_of x ≡ []
no_outputs_of (v.Output l) h = absurd (cc)
no_outputs_of (v.OutputList ls) h = absurd (cc)
no_outputs_of _ h = refl

-- what an attribute of the type has by itself: nothing in it, 0 or `False`
abbrev pub is_blank : AttributeValue → Bool
is_blank (v.String []) = true
is_blank (v.Int n) = int_eq n (pos 0)
is_blank (v.Bool false) = true
is_blank (v.StringList []) = true
is_blank (v.LabelList []) = true
is_blank _ = false

-- ---- its text

-- strings as they are, integers in decimal, 1 for true and 0 for false, labels in full
unfoldable pub value_text : AttributeValue → List ℕ
value_text (v.String s) = s
value_text (v.Int n) = signed_decimal n
value_text (v.Bool b) = if b then codes "1" else codes "0"
value_text (v.StringList ss) = list_text ss
value_text (v.Label l) = full_form l
value_text (v.LabelList ls) = list_text (map full_form ls)
value_text (v.Output l) = full_form l
value_text (v.OutputList ls) = list_text (map full_form ls)

-- what a rule's attribute of this type has where nothing gives it a value; a label or an output then has none
abbrev pub empty_value : AttributeType → Option AttributeValue
empty_value t.String = Some (v.String [])
empty_value t.Int = Some (v.Int (pos 0))
empty_value t.Bool = Some (v.Bool false)
empty_value t.StringList = Some (v.StringList [])
empty_value t.Label = None
empty_value t.LabelList = Some (v.LabelList [])
empty_value t.Output = None
empty_value t.OutputList = Some (v.OutputList [])

-- the text of an attribute that isn't given and has no default of its own: that of this value
unfoldable pub default_text : Option AttributeType → Option (List ℕ)
default_text (Some t.String) = Some []
default_text (Some t.Int) = Some (codes "0")
default_text (Some t.Bool) = Some (codes "0")
default_text (Some t.StringList) = Some (codes "[]")
default_text (Some t.LabelList) = Some (codes "[]")
default_text (Some t.OutputList) = Some (codes "[]")
default_text _ = None

-- ---- parts of values

-- both are true, or both are false
abbrev pub same_bool : Bool → Bool → Bool
same_bool true b = b
same_bool false true = false
same_bool false false = true

-- there are as many texts, and the same ones at the same places
abbrev pub same_texts : List (List ℕ) → List (List ℕ) → Bool
same_texts xs ys = pointwise bytes_eq xs ys

-- the two labels have the same repository, package and name
abbrev pub same_label : LabelParts → LabelParts → Bool
same_label a b = bytes_eq a.repo b.repo && bytes_eq a.package b.package && bytes_eq a.name b.name

-- there are as many labels, and the same ones at the same places
abbrev pub same_labels : List LabelParts → List LabelParts → Bool
same_labels xs ys = pointwise same_label xs ys

-- where `a && b` is true, so are a and b
pub both : (a b : Bool) → (a && b) ≡ true → (a ≡ true) × (b ≡ true)
both true b h = (refl, h)
both false b h = absurd (cc)

-- where a and b are true, so is `a && b`
pub all_true : {a b : Bool} → a ≡ true → b ≡ true → (a && b) ≡ true
all_true {a} {b} h k = ap (λ c. c && b) h ∙ k

-- texts that compare as equal are one
pub text_true : (a b : List ℕ) → bytes_eq a b ≡ true → a ≡ b
text_true a b = (bytes_decides a b).0

-- a text compares as equal to itself
pub text_refl : (a : List ℕ) → bytes_eq a a ≡ true
text_refl a = (bytes_decides a a).1 refl

-- truth values that compare as equal are one
pub bool_true : (a b : Bool) → same_bool a b ≡ true → a ≡ b
bool_true true b h = sym h
bool_true false false h = refl
bool_true false true h = absurd (cc)

-- a truth value compares as equal to itself
pub bool_refl : (a : Bool) → same_bool a a ≡ true
bool_refl true = refl
bool_refl false = refl

label_true : (a b : LabelParts) → same_label a b ≡ true → a ≡ b
label_true a b h =
    let p = both _ _ h in
    let q = both _ _ p.0 in
    let repo : a.repo ≡ b.repo = text_true a.repo b.repo q.0 in
    let home : a.package ≡ b.package = text_true a.package b.package q.1 in
    let name : a.name ≡ b.name = text_true a.name b.name p.1 in
    λ i. record { repo = repo i; «package» = home i; name = name i }

label_refl : (a : LabelParts) → same_label a a ≡ true
label_refl a = all_true (all_true (text_refl a.repo) (text_refl a.package)) (text_refl a.name)

texts_decide : (xs ys : List (List ℕ)) → (same_texts xs ys ≡ true → xs ≡ ys) × (xs ≡ ys → same_texts xs ys ≡ true)
texts_decide = pointwise_decides bytes_decides

labels_decide : (xs ys : List LabelParts) → (same_labels xs ys ≡ true → xs ≡ ys) × (xs ≡ ys → same_labels xs ys ≡ true)
labels_decide = pointwise_decides (λ a b. (label_true a b, λ e. ap (same_label a) (sym e) ∙ label_refl a))

-- a code of each text, which no other text has
abbrev pub coded_text : Coded (List ℕ)
coded_text = coded_list coded_ℕ

-- a code of each label, by its repository, package and name; no other label has it
abbrev pub coded_label : Coded LabelParts
coded_label =
    code_by (List ℕ × (List ℕ × List ℕ)) (coded× coded_text (coded× coded_text coded_text)) (λ l. (l.repo, (l.package, l.name)))
    (λ p. record { repo = p.0; «package» = p.1.0; name = p.1.1 }) (λ _. refl)

-- ---- when two are the same

-- the values are of one type and equal in each part; values of two types never are the same
abbrev pub same_value : AttributeValue → AttributeValue → Bool
same_value (v.String a) (v.String b) = bytes_eq a b
same_value (v.Int a) (v.Int b) = int_eq a b
same_value (v.Bool a) (v.Bool b) = same_bool a b
same_value (v.StringList xs) (v.StringList ys) = same_texts xs ys
same_value (v.Label a) (v.Label b) = same_label a b
same_value (v.LabelList xs) (v.LabelList ys) = same_labels xs ys
same_value (v.Output a) (v.Output b) = same_label a b
same_value (v.OutputList xs) (v.OutputList ys) = same_labels xs ys
same_value _ _ = false

-- values that are the same are one
pub value_true : (a b : AttributeValue) → same_value a b ≡ true → a ≡ b
value_true (v.String a) (v.String b) h = ap v.String (text_true a b h)
value_true (v.Int a) (v.Int b) h = ap v.Int ((signed_Decides a b).0 h)
value_true (v.Bool a) (v.Bool b) h = ap v.Bool (bool_true a b h)
value_true (v.StringList xs) (v.StringList ys) h = ap v.StringList ((texts_decide xs ys).0 h)
value_true (v.Label a) (v.Label b) h = ap v.Label (label_true a b h)
value_true (v.LabelList xs) (v.LabelList ys) h = ap v.LabelList ((labels_decide xs ys).0 h)
value_true (v.Output a) (v.Output b) h = ap v.Output (label_true a b h)
value_true (v.OutputList xs) (v.OutputList ys) h = ap v.OutputList ((labels_decide xs ys).0 h)
value_true _ _ h = absurd (cc)

-- a value is the same as itself
pub value_refl : (a : AttributeValue) → same_value a a ≡ true
value_refl (v.String a) = text_refl a
value_refl (v.Int a) = (signed_Decides a a).1 refl
value_refl (v.Bool a) = bool_refl a
value_refl (v.StringList xs) = (texts_decide xs xs).1 refl
value_refl (v.Label a) = label_refl a
value_refl (v.LabelList xs) = (labels_decide xs xs).1 refl
value_refl (v.Output a) = label_refl a
value_refl (v.OutputList xs) = (labels_decide xs xs).1 refl

-- texts, an integer, a bool, labels of each kind
abbrev Plain : Type 0
Plain = (List ℕ ⊎ (ℤ ⊎ (Bool ⊎ List (List ℕ)))) ⊎ ((LabelParts ⊎ List LabelParts) ⊎ (LabelParts ⊎ List LabelParts))

abbrev plain : AttributeValue → Plain
plain (v.String s) = inl (inl s)
plain (v.Int n) = inl (inr (inl n))
plain (v.Bool b) = inl (inr (inr (inl b)))
plain (v.StringList ss) = inl (inr (inr (inr ss)))
plain (v.Label l) = inr (inl (inl l))
plain (v.LabelList ls) = inr (inl (inr ls))
plain (v.Output l) = inr (inr (inl l))
plain (v.OutputList ls) = inr (inr (inr ls))

abbrev value_of : Plain → AttributeValue
value_of (inl (inl s)) = v.String s
value_of (inl (inr (inl n))) = v.Int n
value_of (inl (inr (inr (inl b)))) = v.Bool b
value_of (inl (inr (inr (inr ss)))) = v.StringList ss
value_of (inr (inl (inl l))) = v.Label l
value_of (inr (inl (inr ls))) = v.LabelList ls
value_of (inr (inr (inl l))) = v.Output l
value_of (inr (inr (inr ls))) = v.OutputList ls

-- a value that is turned into a sum of its types and back is itself
pub value_of-plain : (x : AttributeValue) → value_of (plain x) ≡ x
value_of-plain (v.String s) = refl
value_of-plain _ = refl

abbrev coded_labels : Coded (LabelParts ⊎ List LabelParts)
coded_labels = coded⊎ coded_label (coded_list coded_label)

abbrev coded_plain : Coded Plain
coded_plain = coded⊎ (coded⊎ coded_text (coded⊎ coded_ℤ (coded⊎ coded_bool (coded_list coded_text)))) (coded⊎ coded_labels coded_labels)

-- a code of each attribute value, which no other value has
abbrev pub coded_value : Coded AttributeValue
coded_value = code_by Plain coded_plain plain value_of value_of-plain
