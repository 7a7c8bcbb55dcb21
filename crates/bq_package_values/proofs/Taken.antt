-- An attribute of each type takes the values of its type, as what they are, and refuses the others for what is wrong with them. Nothing here is
-- about one type alone.
use Rattle.std.proofs.Common.{◌≡◌, ◌∙◌, inl, inr, ℕ, List, Result, Ok, Err, refl, sym, ap, subst}
use Rattle.bq_base.specs.declared.fault.EvalFault.{EvalFault}
use Rattle.bq_base.specs.declared.fault.EvalFault.TheVariants as f
use Rattle.bq_label.specs.declared.packages.BuildFile.{BuildFile}
use Rattle.bq_label.specs.Label.{PackageParts}
use Rattle.bq_predeclared.specs.declared.attribute_type.AttributeType.{AttributeType}
use Rattle.bq_value_datum.specs.declared.attribute_value.AttributeValue.{AttributeValue}
use Rattle.bq_value_datum.specs.declared.attribute_value.AttributeValue.TheVariants as a
use Rattle.bq_value.specs.Datum.{Datum}
use Rattle.bq_value.specs.Cells.{StoreView}
use Rattle.bq_package_values.specs.declared.label_texts.TextKind.TheVariants as k
use Rattle.bq_package_values.specs.declared.written.Written.{Written}
use Rattle.bq_package_values.specs.declared.written.Written.TheVariants as w
use Rattle.bq_package_values.specs.Steps.{and_then}
use Rattle.bq_package_values.specs.Readings.{Reads}
use Rattle.bq_package_values.specs.Types.{written_as, IsWritten, each_type_reads}
use Rattle.bq_package_values.specs.Values.{typed, value_as}
use Rattle.bq_package_values.specs.Taken.{IsTyped, IsUntyped, IsTakenAs, IsRefusedFor}
use Rattle.bq_package_values.specs.TypeLaws.{EachTypeTakesItsValues, EachTypeRefusesOtherValues}
use Rattle.bq_package_values.proofs.Steps.{both_ok}
use Rattle.bq_package_values.proofs.Standing.{Labelled, one, crossed, nothing, labelled, AllLabelled, each, some_crossed, some_nothing, all_labelled, label_so, label_crosses_so, no_label_so, labels_so, labels_cross_so, no_labels_so}

module _ (own : PackageParts) (packages : List BuildFile) where
  -- ---- what is written, with its labels read

  -- it is typed as the answer, or refused for it
  data Judged (x : Written) : Type 0 where
    typed_as : (y : AttributeValue) → IsTyped own packages x y → typed own packages x ≡ Ok y → Judged x
    untyped : (why : EvalFault) → IsUntyped own packages x why → typed own packages x ≡ Err why → Judged x

  one_label : (s : List ℕ) → Labelled own packages k.Label s → Judged (w.Label s)
  unfolding typed
  one_label s (one l h stays is) = typed_as (a.Label l) (l, (h, stays), refl) (rw is refl)
  one_label s (crossed l h c is) = untyped f.CrossesPackage (inr (l, h, c, refl)) (rw is refl)
  one_label s (nothing lacks is) = untyped f.BadLabel (inl (lacks, refl)) (rw is refl)

  one_output : (s : List ℕ) → Labelled own packages k.Output s → Judged (w.Output s)
  unfolding typed
  one_output s (one l h stays is) = typed_as (a.Output l) (l, (h, stays), refl) (rw is refl)
  one_output s (crossed l h c is) = untyped f.CrossesPackage (inr (l, h, c, refl)) (rw is refl)
  one_output s (nothing lacks is) = untyped f.BadName (inl (lacks, refl)) (rw is refl)

  some_labels : (ss : List (List ℕ)) → AllLabelled own packages k.Label ss → Judged (w.LabelList ss)
  unfolding typed
  some_labels ss (each ls h stays is) = typed_as (a.LabelList ls) (ls, (h, stays), refl) (rw is refl)
  some_labels ss (some_crossed ls h c is) = untyped f.CrossesPackage (inr (ls, h, c, refl)) (rw is refl)
  some_labels ss (some_nothing lack is) = untyped f.BadLabel (inl (lack, refl)) (rw is refl)

  some_outputs : (ss : List (List ℕ)) → AllLabelled own packages k.Output ss → Judged (w.OutputList ss)
  unfolding typed
  some_outputs ss (each ls h stays is) = typed_as (a.OutputList ls) (ls, (h, stays), refl) (rw is refl)
  some_outputs ss (some_crossed ls h c is) = untyped f.CrossesPackage (inr (ls, h, c, refl)) (rw is refl)
  some_outputs ss (some_nothing lack is) = untyped f.BadName (inl (lack, refl)) (rw is refl)

  judged : (x : Written) → Judged x
  unfolding typed
  judged (w.Value y) = typed_as y refl refl
  judged (w.Label s) = one_label s (labelled own packages k.Label s)
  judged (w.LabelList ss) = some_labels ss (all_labelled own packages k.Label ss)
  judged (w.Output s) = one_output s (labelled own packages k.Output s)
  judged (w.OutputList ss) = some_outputs ss (all_labelled own packages k.Output ss)

  types : (x : Written) (y : AttributeValue) → Judged x → typed own packages x ≡ Ok y → IsTyped own packages x y
  types x y (typed_as z h is) e = let same : z ≡ y = cc (is, e) in subst (λ (z : AttributeValue). IsTyped own packages x z) same h
  types x y (untyped why h is) e = let no : ⊥ = cc (is, e) in absurd no

  untypes : (x : Written) (why : EvalFault) → Judged x → typed own packages x ≡ Err why → IsUntyped own packages x why
  untypes x why (typed_as z h is) e = let no : ⊥ = cc (is, e) in absurd no
  untypes x why (untyped other h is) e = let same : other ≡ why = cc (is, e) in subst (IsUntyped own packages x) same h

  gives : (x : Written) (y : AttributeValue) → IsTyped own packages x y → typed own packages x ≡ Ok y
  unfolding typed
  gives (w.Value z) y h = ap Ok (sym h)
  gives (w.Label s) y h = rw (label_so own packages k.Label s h.0 h.1.0 h.1.1) (ap Ok (sym h.2))
  gives (w.LabelList ss) y h = rw (labels_so own packages k.Label ss h.0 h.1.0 h.1.1) (ap Ok (sym h.2))
  gives (w.Output s) y h = rw (label_so own packages k.Output s h.0 h.1.0 h.1.1) (ap Ok (sym h.2))
  gives (w.OutputList ss) y h = rw (labels_so own packages k.Output ss h.0 h.1.0 h.1.1) (ap Ok (sym h.2))

  denies : (x : Written) (why : EvalFault) → IsUntyped own packages x why → typed own packages x ≡ Err why
  unfolding typed
  denies (w.Value z) why h = absurd h
  denies (w.Label s) why (inl h) = rw (no_label_so own packages k.Label s h.0) (ap Err (sym h.1))
  denies (w.Label s) why (inr h) = rw (label_crosses_so own packages k.Label s h.0 h.1 h.2) (ap Err (sym h.3))
  denies (w.LabelList ss) why (inl h) = rw (no_labels_so own packages k.Label ss h.0) (ap Err (sym h.1))
  denies (w.LabelList ss) why (inr h) = rw (labels_cross_so own packages k.Label ss h.0 h.1 h.2) (ap Err (sym h.3))
  denies (w.Output s) why (inl h) = rw (no_label_so own packages k.Output s h.0) (ap Err (sym h.1))
  denies (w.Output s) why (inr h) = rw (label_crosses_so own packages k.Output s h.0 h.1 h.2) (ap Err (sym h.3))
  denies (w.OutputList ss) why (inl h) = rw (no_labels_so own packages k.Output ss h.0) (ap Err (sym h.1))
  denies (w.OutputList ss) why (inr h) = rw (labels_cross_so own packages k.Output ss h.0 h.1 h.2) (ap Err (sym h.3))

  -- ---- values

  module _ (store : StoreView) (type : AttributeType) (v : Datum) where
    abbrev R : Result Written EvalFault
    R = written_as f.AttributeType store type v

    reads : Reads f.AttributeType R (IsWritten store v type)
    reads = each_type_reads f.AttributeType store type v

    takes : (y : AttributeValue) → value_as own packages store type v ≡ Ok y → IsTakenAs own packages store v y type
    unfolding value_as
    takes y h = let r = both_ok R (typed own packages) y h in (r.0, (reads.found r.0).0 r.1, types r.0 y (judged r.0) r.2)

    taken : (y : AttributeValue) → IsTakenAs own packages store v y type → value_as own packages store type v ≡ Ok y
    unfolding value_as
    taken y h = ap (λ (q : Result Written EvalFault). and_then q (typed own packages)) ((reads.found h.0).1 h.1) ∙ gives h.0 y h.2

    refuses_by : (q : Result Written EvalFault) → R ≡ q → (why : EvalFault) → and_then q (typed own packages) ≡ Err why → IsRefusedFor own packages store v type why
    refuses_by (Ok x) at why h = inr (x, (reads.found x).0 at, untypes x why (judged x) h)
    refuses_by (Err e) at why h =
        let same : e ≡ why = cc in
        inl (λ x is. let no : ⊥ = cc ((reads.found x).1 is, at) in no, sym same ∙ reads.refused e at)

    refuses : (why : EvalFault) → value_as own packages store type v ≡ Err why → IsRefusedFor own packages store v type why
    unfolding value_as
    refuses why h = refuses_by R refl why h

    none_written : (q : Result Written EvalFault) → R ≡ q → ((x : Written) → ¬ (IsWritten store v type x)) → R ≡ Err f.AttributeType
    none_written (Ok x) at none = absurd (none x ((reads.found x).0 at))
    none_written (Err e) at none = at ∙ ap Err (reads.refused e at)

    refused : (why : EvalFault) → IsRefusedFor own packages store v type why → value_as own packages store type v ≡ Err why
    unfolding value_as
    refused why (inl h) = ap (λ (q : Result Written EvalFault). and_then q (typed own packages)) (none_written R refl h.0) ∙ ap Err (sym h.1)
    refused why (inr h) = ap (λ (q : Result Written EvalFault). and_then q (typed own packages)) ((reads.found h.0).1 h.1) ∙ denies h.0 why h.2

pub each_type_takes_its_values : EachTypeTakesItsValues
each_type_takes_its_values own packages store type v y = (takes own packages store type v y, taken own packages store type v y)

pub each_type_refuses_other_values : EachTypeRefusesOtherValues
each_type_refuses_other_values own packages store type v why = (refuses own packages store type v why, refused own packages store type v why)
