-- What a look-up of a label answers, and that the labels that are added are found.
use Rattle.std.proofs.Common.{◌≡◌, ◌≢◌, ◌∙◌, ◌⊎◌, ◌<◌, ℕ, true, false, List, [], ◌∷◌, ◌++◌, length, Option, Some, None, is_some, slice_get, position, sym, ap, subst, inl, inr}
use Rattle.std.specs.Prelude.{IfSome, IfNone}
use Rattle.std.specs.BTreeMap.{BTreeMap}
use Rattle.std.proofs.lemmas.List.Quantifiers.{position-Some}
use Rattle.std.proofs.lemmas.Option.{slice_get_within}
use Rattle.bq_base_texts.proofs.Positions.{true_false, some_is, none_some, pushed_cases, position_at, position_nowhere, absent_at, one_more_differs, has_place}
use Rattle.bq_label.specs.Label.{LabelParts}
use Rattle.bq_label_set.specs.Labels.{same_label, same_label-Decides, has_label}
use Rattle.bq_label_set.specs.Numbering.{first_number, colliding_number, HasNumber, AreNumbered}

abbrev Labels : Type 0
Labels = List LabelParts

abbrev Hashes : Type 0
Hashes = BTreeMap ℕ ℕ

abbrev Keys : Type 0
Keys = BTreeMap LabelParts ℕ

pub nothing_numbered : (p : Hashes) (q : Keys) → AreNumbered [] p q
nothing_numbered p q = record { differ = λ i j l a b. absurd (none_some l a); numbered = λ i l a. absurd (none_some l a) }

-- ---- a number, and the label that has it

abbrev Lacks : Labels → Option ℕ → LabelParts → Type 0
Lacks ls number l = (i : ℕ) → number ≡ Some i → slice_get ls i ≡ Some l → ⊥

pub no_number : (ls : Labels) (o : Option ℕ) (l : LabelParts) → o ≡ None → Lacks ls o l
no_number ls o l none i h at = none_some i (sym none ∙ h)

pub past : (ls : Labels) (o : Option ℕ) (l : LabelParts) (p : ℕ) → o ≡ Some p → slice_get ls p ≡ None → Lacks ls o l
past ls o l p is none i h at = none_some l (sym none ∙ (ap (slice_get ls) (some_is p i (sym is ∙ h)) ∙ at))

pub other_there : (ls : Labels) (o : Option ℕ) (l other : LabelParts) (p : ℕ) → o ≡ Some p → slice_get ls p ≡ Some other → same_label other l ≡ false → Lacks ls o l
other_there ls o l other p is there differs i h at =
    let e : p ≡ i = some_is p i (sym is ∙ h) in
    let same : other ≡ l = some_is other l (sym there ∙ (ap (slice_get ls) e ∙ at)) in
    true_false (sym ((same_label-Decides other l).1 same) ∙ differs)

pub same_there : (ls : Labels) (l other : LabelParts) (p : ℕ) → slice_get ls p ≡ Some other → same_label other l ≡ true → slice_get ls p ≡ Some l
same_there ls l other p there same = there ∙ ap Some ((same_label-Decides other l).0 same)

-- ---- the number of a label

pub number_within : (ls : Labels) (l : LabelParts) (i : ℕ) → position (same_label l) ls ≡ Some i → i < length ls
number_within ls l i h = (position-Some (same_label l) ls i l h).0

pub at_number : (ls : Labels) (p : Hashes) (q : Keys) (l : LabelParts) (i : ℕ) → AreNumbered ls p q → slice_get ls i ≡ Some l → position (same_label l) ls ≡ Some i
at_number ls p q l i are at = position_at same_label same_label-Decides ls l i are.differ at

nowhere : (ls : Labels) (p : Hashes) (q : Keys) (l : LabelParts) → AreNumbered ls p q → Lacks ls (first_number p l) l → Lacks ls (colliding_number q l) l → position (same_label l) ls ≡ None
nowhere ls p q l are first late =
    position_nowhere same_label same_label-Decides ls l
    (λ i at.
    elim (are.numbered i l at) [
      | inl h ↦ first i h at
      | inr h ↦ late i h at
    ])

-- what a second look-up answers, where the first finds nothing
pub late_number : (ls : Labels) (p : Hashes) (q : Keys) (l : LabelParts) (first late o : Option ℕ) → AreNumbered ls p q → first ≡ first_number p l → late ≡ colliding_number q l → Lacks ls first l → IfSome o (λ i. (late ≡ Some i) × (slice_get ls i ≡ Some l)) → IfNone o (Lacks ls late l) → o ≡ position (same_label l) ls
late_number ls p q l first late None are e f none there nothing =
    sym (nowhere ls p q l are (λ i h at. none i (e ∙ h) at) (λ i h at. nothing i (f ∙ h) at))
late_number ls p q l first late (Some i) are e f none there nothing = sym (at_number ls p q l i are there.1)

pub late_within : (ls : Labels) (l : LabelParts) (late o : Option ℕ) → IfSome o (λ i. (late ≡ Some i) × (slice_get ls i ≡ Some l)) → IfSome o (λ i. i < length ls)
late_within ls l late None there = tt
late_within ls l late (Some i) there = slice_get_within ls i l there.1

-- ---- more labels

pub has_number : (ls : Labels) (l : LabelParts) → is_some (position (same_label l) ls) ≡ has_label ls l
has_number ls l = has_place (same_label l) ls l

abbrev KeepOthers : Hashes → Keys → Hashes → Keys → LabelParts → Type 0
KeepOthers p q p' q' l = (other : LabelParts) (i : ℕ) → other ≢ l → HasNumber p q other i → HasNumber p' q' other i

pub still_numbered : (ls : Labels) (p p' : Hashes) (q q' : Keys) (l : LabelParts) → AreNumbered ls p q → has_label ls l ≡ false → KeepOthers p q p' q' l → AreNumbered ls p' q'
still_numbered ls p p' q q' l are new keep =
    record {
      differ = are.differ;
      numbered = λ i other at. keep other i (λ e. absent_at same_label same_label-Decides ls l i new (at ∙ ap Some e)) (are.numbered i other at);
    }

pub one_more : (ls : Labels) (p p' : Hashes) (q q' : Keys) (l : LabelParts) → AreNumbered ls p q → has_label ls l ≡ false → KeepOthers p q p' q' l → HasNumber p' q' l (length ls) → AreNumbered (ls ++ l ∷ []) p' q'
one_more ls p p' q q' l are new keep last =
    let still = still_numbered ls p p' q q' l are new keep in
    record {
      differ = one_more_differs same_label same_label-Decides ls l are.differ new;
      numbered = λ i other at.
          elim (pushed_cases ls l other i at) [
            | inl old ↦ still.numbered i other old
            | inr this ↦ subst (λ (k : ℕ). HasNumber p' q' other k) (sym this.0) (subst (λ (z : LabelParts). HasNumber p' q' z (length ls)) this.1 last)
          ];
    }
