-- The labels that are read in a package are of it, and so are the files that a rule makes.
use Rattle.std.proofs.Common.{◌≡◌, ◌∙◌, ℕ, true, false, List, [], Ok, refl, ap, subst}
use Rattle.std.specs.List.{list_all, list_any}
use Rattle.bq_base.specs.declared.fault.EvalFault.TheVariants as f
use Rattle.bq_label.specs.declared.packages.BuildFile.{BuildFile}
use Rattle.bq_label.specs.Label.{PackageParts, LabelParts, label_in}
use Rattle.bq_label.specs.Paths.{is_path}
use Rattle.bq_predeclared.specs.declared.attribute_type.AttributeType.{AttributeType}
use Rattle.bq_predeclared.specs.declared.attribute_type.AttributeType.TheVariants as t
use Rattle.bq_value_datum.specs.declared.attribute_value.AttributeValue.{AttributeValue}
use Rattle.bq_value_datum.specs.declared.attribute_value.AttributeValue.TheVariants as a
use Rattle.bq_value_datum.specs.AttributeValue.{outputs_of}
use Rattle.bq_value.specs.Datum.{Datum}
use Rattle.bq_value.specs.Cells.{StoreView}
use Rattle.bq_package_target.specs.Target.{is_of}
use Rattle.bq_package_values.specs.declared.label_texts.TextKind.{TextKind}
use Rattle.bq_package_values.specs.declared.label_texts.TextKind.TheVariants as k
use Rattle.bq_package_values.specs.declared.written.Written.{Written}
use Rattle.bq_package_values.specs.declared.written.Written.TheVariants as w
use Rattle.bq_package_values.specs.Steps.{and_then, in_turn}
use Rattle.bq_package_values.specs.Scope.{own_label_crosses, inside, all_inside}
use Rattle.bq_package_values.specs.LabelTexts.{named, without_colon, read, read_all, label, labels}
use Rattle.bq_package_values.specs.Types.{written_as, IsWritten, each_type_reads}
use Rattle.bq_package_values.specs.Values.{typed, value_as}
use Rattle.bq_package_values.proofs.Crossings.{in_own}
use Rattle.bq_package_values.proofs.Steps.{both_ok, then_ok, else_ok, each_passes}

-- ---- labels

named_own : (own : PackageParts) (n : List ℕ) (l : LabelParts) → named own n ≡ Ok l → is_of own l ≡ true
named_own own n l h = subst (λ (m : LabelParts). is_of own m ≡ true) (then_ok (is_path n) (label_in own n) l f.BadName h) (in_own own n)

-- a text that stands for a target of the package
name_own : (own : PackageParts) (text : List ℕ) (l : LabelParts) → read own k.Name text ≡ Ok l → is_of own l ≡ true
unfolding read
name_own own text l h = named_own own text l h

output_own : (own : PackageParts) (text : List ℕ) (l : LabelParts) → read own k.Output text ≡ Ok l → is_of own l ≡ true
unfolding read
output_own own text l h = named_own own (without_colon text) l h

-- what is read is what stays inside
inside_is : (own : PackageParts) (packages : List BuildFile) (l m : LabelParts) → inside own packages l ≡ Ok m → l ≡ m
unfolding inside
inside_is own packages l m h = else_ok (own_label_crosses own packages l) l m f.CrossesPackage h

all_inside_is : (own : PackageParts) (packages : List BuildFile) (ls ms : List LabelParts) → all_inside own packages ls ≡ Ok ms → ls ≡ ms
unfolding all_inside
all_inside_is own packages ls ms h = else_ok (list_any (own_label_crosses own packages) ls) ls ms f.CrossesPackage h

pub label_read : (own : PackageParts) (packages : List BuildFile) (kind : TextKind) (text : List ℕ) (l : LabelParts) → label own packages kind text ≡ Ok l → read own kind text ≡ Ok l
unfolding label
label_read own packages kind text l h = let r = both_ok (read own kind text) (inside own packages) l h in r.1 ∙ ap Ok (inside_is own packages r.0 l r.2)

pub name_label_own : (own : PackageParts) (packages : List BuildFile) (text : List ℕ) (l : LabelParts) → label own packages k.Name text ≡ Ok l → is_of own l ≡ true
name_label_own own packages text l h = name_own own text l (label_read own packages k.Name text l h)

pub labels_read : (own : PackageParts) (packages : List BuildFile) (kind : TextKind) (texts : List (List ℕ)) (ls : List LabelParts) → labels own packages kind texts ≡ Ok ls
    → in_turn (read own kind) [] texts ≡ Ok ls
unfolding labels read_all
labels_read own packages kind texts ls h = let r = both_ok (read_all own kind texts) (all_inside own packages) ls h in r.1 ∙ ap Ok (all_inside_is own packages r.0 ls r.2)

pub name_labels_own : (own : PackageParts) (packages : List BuildFile) (texts : List (List ℕ)) (ls : List LabelParts) → labels own packages k.Name texts ≡ Ok ls → list_all (is_of own) ls ≡ true
name_labels_own own packages texts ls h = each_passes (read own k.Name) (is_of own) (name_own own) [] texts ls (labels_read own packages k.Name texts ls h) refl

output_labels_own : (own : PackageParts) (packages : List BuildFile) (texts : List (List ℕ)) (ls : List LabelParts) → labels own packages k.Output texts ≡ Ok ls → list_all (is_of own) ls ≡ true
output_labels_own own packages texts ls h = each_passes (read own k.Output) (is_of own) (output_own own) [] texts ls (labels_read own packages k.Output texts ls h) refl

-- ---- values

-- the files that a value has the rule make are of the package
abbrev pub HasOwnOutputs : PackageParts → AttributeValue → Type 0
HasOwnOutputs own v = list_all (is_of own) (outputs_of v) ≡ true

-- the outputs of what is written without labels
abbrev plain_outputs : Written → List LabelParts
plain_outputs (w.Value x) = outputs_of x
plain_outputs _ = []

-- there are none, whatever the type is
no_plain_outputs : (store : StoreView) (v : Datum) (type : AttributeType) (x : Written) → IsWritten store v type x → plain_outputs x ≡ []
no_plain_outputs store v t.String x h = ap plain_outputs h.2
no_plain_outputs store v _ x h = ap plain_outputs h.2

module _ (own : PackageParts) (packages : List BuildFile) where
  typed_own : (x : Written) (v : AttributeValue) → plain_outputs x ≡ [] → typed own packages x ≡ Ok v → HasOwnOutputs own v
  unfolding typed
  typed_own (w.Value y) v none h = let e : y ≡ v = cc in subst (HasOwnOutputs own) e (ap (list_all (is_of own)) none)
  typed_own (w.Label text) v none h =
      let r = both_ok (label own packages k.Label text) (λ l. Ok (a.Label l)) v h in let e : a.Label r.0 ≡ v = cc in subst (HasOwnOutputs own) e refl
  typed_own (w.LabelList texts) v none h =
      let r = both_ok (labels own packages k.Label texts) (λ ls. Ok (a.LabelList ls)) v h in let e : a.LabelList r.0 ≡ v = cc in subst (HasOwnOutputs own) e refl
  typed_own (w.Output text) v none h =
      let r = both_ok (label own packages k.Output text) (λ l. Ok (a.Output l)) v h in
      let e : a.Output r.0 ≡ v = cc in
      let mine : is_of own r.0 ≡ true = output_own own text r.0 (label_read own packages k.Output text r.0 r.1) in
      subst (HasOwnOutputs own) e (rw mine refl)
  typed_own (w.OutputList texts) v none h =
      let r = both_ok (labels own packages k.Output texts) (λ ls. Ok (a.OutputList ls)) v h in
      let e : a.OutputList r.0 ≡ v = cc in
      subst (HasOwnOutputs own) e (output_labels_own own packages texts r.0 r.1)

  -- what a value is as an attribute of a type
  pub value_own : (store : StoreView) (kind : AttributeType) (v : Datum) (x : AttributeValue) → value_as own packages store kind v ≡ Ok x → HasOwnOutputs own x
  unfolding value_as
  value_own store kind v x h =
      let r = both_ok (written_as f.AttributeType store kind v) (typed own packages) x h in
      typed_own r.0 x (no_plain_outputs store v kind r.0 (((each_type_reads f.AttributeType store kind v).found r.0).0 r.1)) r.2
