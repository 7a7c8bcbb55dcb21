-- The labels that texts stand for, and which of them cross into another package: the functions answer as the words say.
use Rattle.std.proofs.Common.{◌≡◌, ◌∙◌, ◌⊎◌, inl, inr, ℕ, Bool, true, false, cond, List, [], ◌∷◌, Option, Some, None, Ok, Err, refl, sym, ap, subst, arith}
use Rattle.std.specs.Prelude.{◌==◌, not, All, Any}
use Rattle.std.specs.List.{AllZip, list_any}
use Rattle.std.proofs.lemmas.Bool.Decides.{nat_tests}
use mathlib.Core.Bool.{false≢true}
use Rattle.bq_base.specs.declared.fault.EvalFault.{EvalFault}
use Rattle.bq_base.specs.declared.fault.EvalFault.TheVariants as f
use Rattle.bq_label.specs.declared.packages.BuildFile.{BuildFile}
use Rattle.bq_label.specs.Label.{PackageParts, LabelParts, package_of, label_in}
use Rattle.bq_label.specs.Paths.{is_path}
use Rattle.bq_label.specs.Packages.{label_path, owner_of}
use Rattle.bq_label.specs.Reading.{label_of}
use Rattle.bq_label.proofs.Readings.{label_from_reading, reading_from_label}
use Rattle.bq_package_target.specs.Target.{is_of}
use Rattle.bq_package_values.specs.declared.label_texts.TextKind.{TextKind}
use Rattle.bq_package_values.specs.declared.label_texts.TextKind.TheVariants as k
use Rattle.bq_package_values.specs.Scope.{crosses, own_label_crosses, inside, all_inside}
use Rattle.bq_package_values.specs.LabelTexts.{named, without_colon, read, read_all, label, labels}
use Rattle.bq_package_values.specs.Taken.{NamesFile, bare, after_colon, StandsFor, StandsForNone, CrossesInto, StaysInside}
use Rattle.bq_package_values.proofs.Crossings.{in_own, own_is}
use Rattle.bq_package_values.proofs.Turns.{any_weaker, any_true, any_so, all_false, all_so, turned, answered_in_turn, refused_in_turn, zip_weaker}
use Rattle.bq_package_values.proofs.ValueCases.{is_owned_by_other, label_found}

-- ---- one text

-- what a text that stands for nothing is refused for
abbrev pub refusal : TextKind → EvalFault
refusal k.Label = f.BadLabel
refusal k.Name = f.BadName
refusal k.Output = f.BadName

colon_is_no_path : (bs : List ℕ) → is_path (58 ∷ bs) ≡ true → ⊥
unfolding is_path
colon_is_no_path bs h = cc

-- the text stands for a label, or for none
abbrev pub Read : PackageParts → TextKind → List ℕ → Type 0
Read own kind s = ((l : LabelParts) × (StandsFor own kind s l) × (read own kind s ≡ Ok l)) ⊎ ((StandsForNone own kind s) × (read own kind s ≡ Err (refusal kind)))

label_read : (own : PackageParts) (s : List ℕ) → Read own k.Label s
unfolding read
label_read own s = by (label_of own s) refl
  where
    by : (found : Option LabelParts) → label_of own s ≡ found → Read own k.Label s
    by (Some l) e = inl (l, reading_from_label own s l e, ap label_found e)
    by None e = inr (λ l reads. let is : label_of own s ≡ Some l = label_from_reading own s l reads in cc, ap label_found e)

name_read : (own : PackageParts) (s : List ℕ) → Read own k.Name s
unfolding read
name_read own s = by (is_path s) refl
  where
    by : (b : Bool) → is_path s ≡ b → Read own k.Name s
    by true e = inl (label_in own s, (e, refl), rw e refl)
    by false e = inr (λ l stands. false≢true (sym e ∙ stands.0), rw e refl)

-- the name of a file without the colon before it
plain_read : (own : PackageParts) (s : List ℕ) → without_colon s ≡ s → ((name : List ℕ) → s ≡ 58 ∷ name → ⊥) → Read own k.Output s
unfolding read
plain_read own s same plain = by (is_path s) refl
  where
    none : is_path s ≡ false → StandsForNone own k.Output s
    none e l (bare p is) = false≢true (sym e ∙ p)
    none e l (after_colon name is p at) = plain name is

    by : (b : Bool) → is_path s ≡ b → Read own k.Output s
    by true e = inl (label_in own s, bare e refl, rw (same, e) refl)
    by false e = inr (none e, rw (same, e) refl)

colon_read : (own : PackageParts) (name : List ℕ) → Read own k.Output (58 ∷ name)
unfolding read without_colon
colon_read own name = by (is_path name) refl
  where
    none : is_path name ≡ false → StandsForNone own k.Output (58 ∷ name)
    none e l (bare p is) = colon_is_no_path name p
    none e l (after_colon n is p at) = let same : name ≡ n = cc in false≢true (sym e ∙ (ap is_path same ∙ p))

    by : (b : Bool) → is_path name ≡ b → Read own k.Output (58 ∷ name)
    by true e = inl (label_in own name, after_colon name refl e refl, rw e refl)
    by false e = inr (none e, rw e refl)

output_read : (own : PackageParts) (s : List ℕ) → Read own k.Output s
unfolding without_colon
output_read own [] = plain_read own [] refl (λ name is. cc)
output_read own (b ∷ bs) = by (b == 58) refl
  where
    by : (c : Bool) → (b == 58) ≡ c → Read own k.Output (b ∷ bs)
    by true e = let is : 58 ≡ b = grind (arith, nat_tests) in subst (λ (z : ℕ). Read own k.Output (z ∷ bs)) is (colon_read own bs)
    by false e = plain_read own (b ∷ bs) (rw e refl) (λ name is. let same : b ≡ 58 = cc in let yes : (b == 58) ≡ true = grind (arith, nat_tests) in false≢true (sym e ∙ yes))

pub read_cases : (own : PackageParts) (kind : TextKind) (s : List ℕ) → Read own kind s
read_cases own k.Label s = label_read own s
read_cases own k.Name s = name_read own s
read_cases own k.Output s = output_read own s

stands_by : (own : PackageParts) (kind : TextKind) (s : List ℕ) (l : LabelParts) → Read own kind s → read own kind s ≡ Ok l → StandsFor own kind s l
stands_by own kind s l (inl w) h = let same : w.0 ≡ l = cc (w.2, h) in subst (StandsFor own kind s) same w.1
stands_by own kind s l (inr w) h = let no : ⊥ = cc (w.1, h) in absurd no

-- the text that a label is read from stands for it
pub stands : (own : PackageParts) (kind : TextKind) (s : List ℕ) (l : LabelParts) → read own kind s ≡ Ok l → StandsFor own kind s l
stands own kind s l h = stands_by own kind s l (read_cases own kind s) h

none_by : (own : PackageParts) (kind : TextKind) (s : List ℕ) (why : EvalFault) → Read own kind s → read own kind s ≡ Err why → (StandsForNone own kind s) × (why ≡ refusal kind)
none_by own kind s why (inl w) h = let no : ⊥ = cc (w.2, h) in absurd no
none_by own kind s why (inr w) h = (w.0, cc (w.1, h))

pub stands_for_none : (own : PackageParts) (kind : TextKind) (s : List ℕ) (why : EvalFault) → read own kind s ≡ Err why → (StandsForNone own kind s) × (why ≡ refusal kind)
stands_for_none own kind s why h = none_by own kind s why (read_cases own kind s) h

-- a label is read from the text that stands for it
file_reads : (own : PackageParts) (s : List ℕ) (l : LabelParts) → NamesFile own s l → read own k.Output s ≡ Ok l
unfolding read without_colon
file_reads own [] l (bare p is) = rw p (ap Ok (sym is))
file_reads own (b ∷ bs) l (bare p is) = by (b == 58) refl
  where
    by : (c : Bool) → (b == 58) ≡ c → named own (cond c bs (b ∷ bs)) ≡ Ok l
    by true e = let at : b ≡ 58 = grind (arith, nat_tests) in absurd (colon_is_no_path bs (subst (λ (z : ℕ). is_path (z ∷ bs) ≡ true) at p))
    by false e = rw p (ap Ok (sym is))
file_reads own s l (after_colon name at p is) = subst (λ (z : List ℕ). read own k.Output z ≡ Ok l) (sym at) (rw p (ap Ok (sym is)))

pub reads : (own : PackageParts) (kind : TextKind) (s : List ℕ) (l : LabelParts) → StandsFor own kind s l → read own kind s ≡ Ok l
unfolding read
reads own k.Label s l h = ap label_found (label_from_reading own s l h)
reads own k.Name s l h = rw (h.0) (ap Ok (sym h.1))
reads own k.Output s l h = file_reads own s l h

-- ---- packages

package_is : (own : PackageParts) (l : LabelParts) → is_of own l ≡ true → package_of l ≡ own
package_is own l h = ap package_of (own_is own l h)

is_package : (own : PackageParts) (l : LabelParts) → package_of l ≡ own → is_of own l ≡ true
is_package own l e = subst (λ (p : PackageParts). is_of p l ≡ true) e (in_own (package_of l) l.name)

module _ (own : PackageParts) (packages : List BuildFile) where
  pub crossing : (l : LabelParts) → own_label_crosses own packages l ≡ true → CrossesInto own packages l
  unfolding own_label_crosses crosses
  crossing l h = by (is_of own l) refl h
    where
      owned : is_of own l ≡ true → (owner : Option BuildFile) → owner_of packages (label_path l) ≡ owner → is_owned_by_other l owner ≡ true → CrossesInto own packages l
      owned mine None e h = absurd (false≢true h)
      owned mine (Some b) e h = record {
        owner = b;
        mine = package_is own l mine;
        owned = e;
        other = λ same. let yes : is_of b.id l ≡ true = is_package b.id l same in false≢true (sym (ap not yes) ∙ h);
      }

      by : (b : Bool) → is_of own l ≡ b → cond b (crosses packages l) false ≡ true → CrossesInto own packages l
      by true e h = owned e (owner_of packages (label_path l)) refl h
      by false e h = absurd (false≢true h)

  pub crosses_so : (l : LabelParts) → CrossesInto own packages l → own_label_crosses own packages l ≡ true
  unfolding own_label_crosses crosses
  crosses_so l h = rw (is_package own l h.mine) (ap (is_owned_by_other l) h.owned ∙ by (is_of h.owner.id l) refl)
    where
      by : (b : Bool) → is_of h.owner.id l ≡ b → not b ≡ true
      by true e = absurd (h.other (package_is h.owner.id l e))
      by false e = refl

  pub staying : (l : LabelParts) → own_label_crosses own packages l ≡ false → StaysInside own packages l
  staying l e h = false≢true (sym e ∙ crosses_so l h)

  pub stays_so : (l : LabelParts) → StaysInside own packages l → own_label_crosses own packages l ≡ false
  stays_so l stays = by (own_label_crosses own packages l) refl
    where
      by : (b : Bool) → own_label_crosses own packages l ≡ b → b ≡ false
      by true e = absurd (stays (crossing l e))
      by false e = refl

  -- ---- the label of a text, and the labels of texts

  -- what is read is inside, or crosses
  abbrev pub Inside : LabelParts → Type 0
  Inside l = ((StaysInside own packages l) × (inside own packages l ≡ Ok l)) ⊎ ((CrossesInto own packages l) × (inside own packages l ≡ Err f.CrossesPackage))

  pub inside_cases : (l : LabelParts) → Inside l
  unfolding inside
  inside_cases l = by (own_label_crosses own packages l) refl
    where
      by : (b : Bool) → own_label_crosses own packages l ≡ b → Inside l
      by true e = inr (crossing l e, rw e refl)
      by false e = inl (staying l e, rw e refl)

  abbrev pub AllInside : List LabelParts → Type 0
  AllInside ls =
      ((All (StaysInside own packages) ls) × (all_inside own packages ls ≡ Ok ls)) ⊎ ((Any (CrossesInto own packages) ls) × (all_inside own packages ls ≡ Err f.CrossesPackage))

  pub all_inside_cases : (ls : List LabelParts) → AllInside ls
  unfolding all_inside
  all_inside_cases ls = by (list_any (own_label_crosses own packages) ls) refl
    where
      by : (b : Bool) → list_any (own_label_crosses own packages) ls ≡ b → AllInside ls
      by true e = inr (any_true (own_label_crosses own packages) (CrossesInto own packages) crossing ls e, rw e refl)
      by false e = inl (all_false (own_label_crosses own packages) (StaysInside own packages) staying ls e, rw e refl)

  -- a text has a label that stays inside or crosses, or none
  pub data Labelled (kind : TextKind) (s : List ℕ) : Type 0 where
    one : (l : LabelParts) → StandsFor own kind s l → StaysInside own packages l → label own packages kind s ≡ Ok l → Labelled kind s
    crossed : (l : LabelParts) → StandsFor own kind s l → CrossesInto own packages l → label own packages kind s ≡ Err f.CrossesPackage → Labelled kind s
    nothing : StandsForNone own kind s → label own packages kind s ≡ Err (refusal kind) → Labelled kind s

  pub labelled : (kind : TextKind) (s : List ℕ) → Labelled kind s
  unfolding label
  labelled kind s = elim (read_cases own kind s) [
    | inl w ↦ elim (inside_cases w.0) [
      | inl i ↦ one w.0 w.1 i.0 (rw (w.2) i.1)
      | inr i ↦ crossed w.0 w.1 i.0 (rw (w.2) i.1)
    ]
    | inr w ↦ nothing w.0 (rw (w.1) refl)
  ]

  pub data AllLabelled (kind : TextKind) (ss : List (List ℕ)) : Type 0 where
    each : (ls : List LabelParts) → AllZip (StandsFor own kind) ss ls → All (StaysInside own packages) ls → labels own packages kind ss ≡ Ok ls → AllLabelled kind ss
    some_crossed : (ls : List LabelParts) → AllZip (StandsFor own kind) ss ls → Any (CrossesInto own packages) ls → labels own packages kind ss ≡ Err f.CrossesPackage → AllLabelled kind ss
    some_nothing : Any (StandsForNone own kind) ss → labels own packages kind ss ≡ Err (refusal kind) → AllLabelled kind ss

  pub all_labelled : (kind : TextKind) (ss : List (List ℕ)) → AllLabelled kind ss
  unfolding labels read_all
  all_labelled kind ss = elim (turned (read own kind) [] ss) [
    | inl w ↦
        let zip = zip_weaker (λ s l. read own kind s ≡ Ok l) (StandsFor own kind) (stands own kind) ss w.0 w.1 in
        elim (all_inside_cases w.0) [
          | inl i ↦ each w.0 zip i.0 (rw (w.2) i.1)
          | inr i ↦ some_crossed w.0 zip i.0 (rw (w.2) i.1)
        ]
    | inr w ↦
        let refused = stands_for_none own kind w.1.1 w.0 w.1.4 in
        some_nothing (any_weaker (λ s. read own kind s ≡ Err w.0) (StandsForNone own kind) (λ s e. (stands_for_none own kind s w.0 e).0) ss w.1) (rw (w.2) (ap Err refused.1))
  ]

  -- the other way around
  pub label_so : (kind : TextKind) (s : List ℕ) (l : LabelParts) → StandsFor own kind s l → StaysInside own packages l → label own packages kind s ≡ Ok l
  unfolding label inside
  label_so kind s l h stays = rw (reads own kind s l h, stays_so l stays) refl

  pub label_crosses_so : (kind : TextKind) (s : List ℕ) (l : LabelParts) → StandsFor own kind s l → CrossesInto own packages l → label own packages kind s ≡ Err f.CrossesPackage
  unfolding label inside
  label_crosses_so kind s l h c = rw (reads own kind s l h, crosses_so l c) refl

  nothing_by : (kind : TextKind) (s : List ℕ) → StandsForNone own kind s → Read own kind s → read own kind s ≡ Err (refusal kind)
  nothing_by kind s lacks (inl w) = absurd (lacks w.0 w.1)
  nothing_by kind s lacks (inr w) = w.1

  pub no_label_so : (kind : TextKind) (s : List ℕ) → StandsForNone own kind s → label own packages kind s ≡ Err (refusal kind)
  unfolding label
  no_label_so kind s lacks = rw (nothing_by kind s lacks (read_cases own kind s)) refl

  read_all_so : (kind : TextKind) (ss : List (List ℕ)) (ls : List LabelParts) → AllZip (StandsFor own kind) ss ls → read_all own kind ss ≡ Ok ls
  unfolding read_all
  read_all_so kind ss ls h = answered_in_turn (read own kind) [] ss ls (zip_weaker (StandsFor own kind) (λ s l. read own kind s ≡ Ok l) (reads own kind) ss ls h)

  pub labels_so : (kind : TextKind) (ss : List (List ℕ)) (ls : List LabelParts) → AllZip (StandsFor own kind) ss ls → All (StaysInside own packages) ls → labels own packages kind ss ≡ Ok ls
  unfolding labels all_inside
  labels_so kind ss ls h stay = rw (read_all_so kind ss ls h, all_so (own_label_crosses own packages) (StaysInside own packages) stays_so ls stay) refl

  pub labels_cross_so : (kind : TextKind) (ss : List (List ℕ)) (ls : List LabelParts) → AllZip (StandsFor own kind) ss ls → Any (CrossesInto own packages) ls → labels own packages kind ss ≡ Err f.CrossesPackage
  unfolding labels all_inside
  labels_cross_so kind ss ls h cross = rw (read_all_so kind ss ls h, any_so (own_label_crosses own packages) (CrossesInto own packages) crosses_so ls cross) refl

  pub no_labels_so : (kind : TextKind) (ss : List (List ℕ)) → Any (StandsForNone own kind) ss → labels own packages kind ss ≡ Err (refusal kind)
  unfolding labels read_all
  no_labels_so kind ss lack =
      let refused = refused_in_turn (read own kind) (refusal kind) (λ s why e. (stands_for_none own kind s why e).1) [] ss
      (any_weaker (StandsForNone own kind) (λ s. (l : LabelParts) → ¬ (read own kind s ≡ Ok l)) (λ s nothing l e. nothing l (stands own kind s l e)) ss lack) in
      rw refused refl
