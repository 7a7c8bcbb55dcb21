-- Labels that begin as those of a package do have that package, or one beneath it.
use Rattle.std.proofs.Common.{◌≡◌, ◌↔◌, ◌⊎◌, ◌∙◌, ℕ, ◌++◌, ◌==◌, Bool, true, false, List, [], ◌∷◌, Option, Some, None, length, drop, ◌+◌, refl, sym, ap, subst, append_assoc, arith, inl, inr}
use Rattle.std.specs.Prelude.{◌||◌, bytes_eq}
use Rattle.std.specs.Option.{option_map}
use Rattle.std.specs.List.{list_any}
use Rattle.std.proofs.lemmas.Bool.{cases_Bool, false≢true}
use Rattle.std.proofs.lemmas.Bool.Decides.{Decides-eqb, nat_tests}
use Rattle.std.proofs.lemmas.List.Folds.{list_any-append}
use Rattle.std.proofs.lemmas.Slice.Eq.{starts_is}
use Rattle.bq_label.specs.Paths.{is_repository}
use Rattle.bq_label.specs.Label.{PackageParts, LabelParts, IsPackage, IsLabel, package_at, package_of, repository_prefix, full_form}
use Rattle.bq_label.specs.Workspace.{is_above}
use Rattle.bq_label.proofs.Above.{above_joined, above_whole, equal_bytes, same_bytes}
use Rattle.bq_label.proofs.Readings.{first_of_two, no_colon, no_slash, one_full_form, second_of_two}
use Rattle.bq_label.proofs.Segments.{two_true}
use Rattle.bq_query_lex.specs.declared.target_pattern.PatternForm.{PatternForm}
use Rattle.bq_query_lex.specs.declared.target_pattern.PatternForm.TheVariants as form
use Rattle.bq_query_lex.specs.TargetPatterns.{word_form}
use Rattle.bq_query_lex.specs.declared.pattern.TargetPattern.{TargetPattern}
use Rattle.bq_query_lex.specs.declared.pattern.TargetPattern.TheVariants as pattern
use Rattle.bq_label.specs.Reading.{package_of_text}
use Rattle.bq_label.proofs.PackageTexts.{package_read}
use Rattle.bq_query_lex.specs.PatternReading.{label_named, pattern_by, pattern_of}
use Rattle.bq_query_lex.proofs.Names.{label_valid, same_cut, some_is}
use Rattle.bq_package_target.specs.declared.target.Target.{Target}
use Rattle.bq_query_function.specs.Order.{text_of}
use Rattle.bq_query_function.specs.Packages.{IsWithin, NamesBy, TargetsBeneathAPackage, TargetsOfAPackage, WordsNameLabelsAndPackages}
use Rattle.bq_query_function.specs.Words.{is_package, is_rule, is_within, names}
use Rattle.bq_query_function.specs.Beginnings.{Beginning, begins, beneath, beneath_by, is_wanted, names_in, own, pattern_at}

-- ---- texts

heads : (x y : ℕ) (xs ys : List ℕ) → x ∷ xs ≡ y ∷ ys → x ≡ y
heads x y xs ys e = cc

-- a repository and what follows its two slashes are known of the text
fronts : (r q x y : List ℕ) → is_repository r ≡ true → is_repository q ≡ true → repository_prefix r ++ 47 ∷ 47 ∷ x ≡ repository_prefix q ++ 47 ∷ 47 ∷ y → (r ≡ q) × (x ≡ y)
fronts [] [] x y hr hq e = (refl, ap (drop 2) e)
fronts [] (d ∷ ds) x y hr hq e = let no : 47 ≡ 64 = heads _ _ _ _ e in absurd (omega (arith, no))
fronts (b ∷ bs) [] x y hr hq e = let no : 64 ≡ 47 = heads _ _ _ _ e in absurd (omega (arith, no))
fronts (b ∷ bs) (d ∷ ds) x y hr hq e =
    let cut = same_cut 47 (b ∷ bs) (47 ∷ x) (d ∷ ds) (47 ∷ y) (no_slash (b ∷ bs) hr) (no_slash (d ∷ ds) hq) (ap (drop 1) e) in
    (cut.0, ap (drop 1) cut.1)

-- the first colon comes after bytes that are none
front_in : (xs n ys rest : List ℕ) → list_any (λ b. b == 58) ys ≡ false → xs ++ 58 ∷ n ≡ ys ++ rest → (more : List ℕ) × (xs ≡ ys ++ more)
front_in xs n [] rest none e = (xs, refl)
front_in [] n (y ∷ ys) rest none e =
    let is : 58 ≡ y = heads _ _ _ _ e in
    let colon : (y == 58) ≡ true = grind (arith, nat_tests) in
    absurd (false≢true (sym none ∙ rw colon refl))
front_in (x ∷ xs) n (y ∷ ys) rest none e = elim (cases_Bool (y == 58)) [
  | inl colon ↦ absurd (false≢true (sym none ∙ rw colon refl))
  | inr other ↦
      let more = front_in xs n ys rest (sym (rw other refl) ∙ none) (ap (drop 1) e) in
      let is : x ≡ y = heads _ _ _ _ e in
      (more.0, ap (λ z. z ∷ xs) is ∙ ap (λ zs. y ∷ zs) more.1)
]

joined : (a x : List ℕ) (c : ℕ) (rest : List ℕ) → ((a ++ 47 ∷ 47 ∷ x) ++ c ∷ []) ++ rest ≡ a ++ 47 ∷ 47 ∷ (x ++ c ∷ rest)
joined a x c rest = append_assoc (a ++ 47 ∷ 47 ∷ x) (c ∷ []) rest ∙ append_assoc a (47 ∷ 47 ∷ x) (c ∷ rest)

root_joined : (a rest : List ℕ) → ((a ++ 47 ∷ []) ++ 47 ∷ []) ++ rest ≡ a ++ 47 ∷ 47 ∷ rest
root_joined a rest = append_assoc (a ++ 47 ∷ []) (47 ∷ []) rest ∙ append_assoc a (47 ∷ []) (47 ∷ rest)

form_is : (l : LabelParts) → full_form l ≡ repository_prefix l.repo ++ 47 ∷ 47 ∷ (l.package ++ 58 ∷ l.name)
unfolding full_form
form_is l = refl

-- ---- labels that begin alike

abbrev Begun : Beginning → LabelParts → Type 0
Begun b l = (rest : List ℕ) × (full_form l ≡ (b.0 ++ b.1 ∷ []) ++ rest)

begun : (b : Beginning) (t : Target) → begins b t ≡ true → Begun b t.label
unfolding begins
begun b t h = (drop (length (b.0 ++ b.1 ∷ [])) (text_of t), (starts_is Decides-eqb (text_of t) (b.0 ++ b.1 ∷ []) (begins b t) refl).0 h)

begins_if : (b : Beginning) (t : Target) → Begun b t.label → begins b t ≡ true
unfolding begins
begins_if b t h = (starts_is Decides-eqb (text_of t) (b.0 ++ b.1 ∷ []) (begins b t) refl).1 h.0 h.1

module _ (p : PackageParts) (l : LabelParts) (hp : IsPackage p) (hl : IsLabel l) where
  of_package : Begun (own p) l → package_of l ≡ p
  of_package h =
      let f = fronts l.repo p.repo (l.package ++ 58 ∷ l.name) (p.package ++ 58 ∷ h.0) hl.valid_repo hp.valid_repo (sym (form_is l) ∙ (h.1 ∙ joined (repository_prefix p.repo) p.package 58 h.0)) in
      let g = same_cut 58 l.package l.name p.package h.0 (no_colon l.package hl.valid_package) (no_colon p.package hp.valid_package) f.1 in
      λ i. package_at (f.0 i) (g.0 i)

  beneath_from : (path : List ℕ) → p.package ≡ path → Begun (beneath_by path p) l → IsWithin p (package_of l)
  beneath_from [] root h =
      let f = fronts l.repo p.repo (l.package ++ 58 ∷ l.name) h.0 hl.valid_repo hp.valid_repo (sym (form_is l) ∙ (h.1 ∙ root_joined (repository_prefix p.repo) h.0)) in
      IsWithin.below_root root f.0
  beneath_from (b ∷ bs) some h =
      let f = fronts l.repo p.repo (l.package ++ 58 ∷ l.name) (p.package ++ 47 ∷ h.0) hl.valid_repo hp.valid_repo (sym (form_is l) ∙ (h.1 ∙ joined (repository_prefix p.repo) p.package 47 h.0)) in
      let plain : list_any (λ b. b == 58) (p.package ++ 47 ∷ []) ≡ false = list_any-append (λ b. b == 58) p.package (47 ∷ []) ∙ rw (no_colon p.package hp.valid_package) refl in
      let g = front_in l.package l.name (p.package ++ 47 ∷ []) h.0 plain (f.1 ∙ sym (append_assoc p.package (47 ∷ []) h.0)) in
      IsWithin.under g.0 f.0 (g.1 ∙ append_assoc p.package (47 ∷ []) g.0)

module _ (p : PackageParts) (l : LabelParts) where
  begins_own : package_of l ≡ p → Begun (own p) l
  begins_own is = subst (λ (q : PackageParts). Begun (own q) l) is (l.name, form_is l ∙ sym (joined (repository_prefix l.repo) l.package 58 l.name))

  begins_root : (path : List ℕ) → path ≡ [] → l.repo ≡ p.repo → Begun (beneath_by path p) l
  begins_root [] root repo =
      (l.package ++ 58 ∷ l.name, form_is l ∙ (ap (λ (r : List ℕ). repository_prefix r ++ 47 ∷ 47 ∷ (l.package ++ 58 ∷ l.name)) repo ∙ sym (root_joined (repository_prefix p.repo) (l.package ++ 58 ∷ l.name))))
  begins_root (b ∷ bs) root repo = absurd (cc root)

  -- the label's package is of the repository, and beneath the path
  begins_below : (path rest : List ℕ) → p.package ≡ path → l.repo ≡ p.repo → l.package ≡ p.package ++ 47 ∷ rest → Begun (beneath_by path p) l
  begins_below [] rest root repo is = begins_root [] refl repo
  begins_below (b ∷ bs) rest some repo is =
      let whole : l.package ++ 58 ∷ l.name ≡ p.package ++ 47 ∷ (rest ++ 58 ∷ l.name) = ap (λ (x : List ℕ). x ++ 58 ∷ l.name) is ∙ append_assoc p.package (47 ∷ rest) (58 ∷ l.name) in (
        rest ++ 58 ∷ l.name,
        form_is l ∙ (ap (λ (r : List ℕ). repository_prefix r ++ 47 ∷ 47 ∷ (l.package ++ 58 ∷ l.name)) repo
            ∙ (ap (λ (x : List ℕ). repository_prefix p.repo ++ 47 ∷ 47 ∷ x) whole ∙ sym (joined (repository_prefix p.repo) p.package 47 (rest ++ 58 ∷ l.name)))),
      )

-- ---- the targets of a package, and those beneath it

or_from : (a b : Bool) → (a || b) ≡ true → (a ≡ true) ⊎ (b ≡ true)
or_from true b h = inl refl
or_from false b h = inr h

or_first : (a b : Bool) → a ≡ true → (a || b) ≡ true
or_first a b h = rw h refl

or_second : (a b : Bool) → b ≡ true → (a || b) ≡ true
or_second true b h = refl
or_second false b h = h

or_no : (a : Bool) → (a || false) ≡ true → a ≡ true
or_no true h = refl
or_no false h = h

module _ (p : PackageParts) (t : Target) (rules : Bool) where
  abbrev is_own : Bool
  is_own = begins (own p) t

  abbrev is_beneath : Bool
  is_beneath = begins (beneath p) t

  is_of_it : (package_of t.label ≡ p) × (is_wanted rules t ≡ true) → names_in false rules p t ≡ true
  is_of_it h = two_true _ _ (or_first is_own false (begins_if (own p) t (begins_own p t.label h.0))) h.1

  begins_within : IsWithin p (package_of t.label) → (is_own || is_beneath) ≡ true
  begins_within (IsWithin.itself is) = or_first is_own is_beneath (begins_if (own p) t (begins_own p t.label is))
  begins_within (IsWithin.below_root root repo) = or_second is_own is_beneath (begins_if (beneath p) t (begins_root p t.label p.package root repo))
  begins_within (IsWithin.under rest repo is) = or_second is_own is_beneath (begins_if (beneath p) t (begins_below p t.label p.package rest refl repo is))

  is_beneath_it : IsWithin p (package_of t.label) × (is_wanted rules t ≡ true) → names_in true rules p t ≡ true
  is_beneath_it h = two_true _ _ (begins_within h.0) h.1

  module _ (hp : IsPackage p) (hl : IsLabel t.label) where
    of_it : names_in false rules p t ≡ true → (package_of t.label ≡ p) × (is_wanted rules t ≡ true)
    of_it h = (of_package p t.label hp hl (begun (own p) t (or_no is_own (first_of_two _ _ h))), second_of_two _ _ h)

    within_by : (is_own ≡ true) ⊎ (is_beneath ≡ true) → IsWithin p (package_of t.label)
    within_by (inl h) = IsWithin.itself (of_package p t.label hp hl (begun (own p) t h))
    within_by (inr h) = beneath_from p t.label hp hl p.package refl (begun (beneath p) t h)

    beneath_it : names_in true rules p t ≡ true → IsWithin p (package_of t.label) × (is_wanted rules t ≡ true)
    beneath_it h = (within_by (or_from is_own is_beneath (first_of_two _ _ h)), second_of_two _ _ h)

pub targets_of_a_package : TargetsOfAPackage
targets_of_a_package p t rules hp hl = (of_it p t rules hp hl, is_of_it p t rules)

pub targets_beneath_a_package : TargetsBeneathAPackage
targets_beneath_a_package p t rules hp hl = (beneath_it p t rules hp hl, is_beneath_it p t rules)

-- ---- the tests of packages

same_package : (p q : PackageParts) → is_package p q ≡ true → q ≡ p
same_package p q h =
    let repo : q.repo ≡ p.repo = same_bytes q.repo p.repo (first_of_two _ _ h) in
    let path : q.package ≡ p.package = same_bytes q.package p.package (second_of_two _ _ h) in
    λ i. package_at (repo i) (path i)

is_same_package : (p q : PackageParts) → q ≡ p → is_package p q ≡ true
is_same_package p q e =
    two_true _ _ (equal_bytes q.repo p.repo (ap (λ (r : PackageParts). r.repo) e)) (equal_bytes q.package p.package (ap (λ (r : PackageParts). r.package) e))

within_from : (p q : PackageParts) → is_within p q ≡ true → IsWithin p q
within_from p q h = elim (or_from (is_package p q) _ h) [
  | inl same ↦ IsWithin.itself (same_package p q same)
  | inr lower ↦
      let repo : q.repo ≡ p.repo = same_bytes q.repo p.repo (first_of_two _ _ lower) in
      elim (or_from (bytes_eq p.package []) (is_above p.package q.package) (second_of_two _ _ lower)) [
        | inl root ↦ IsWithin.below_root (same_bytes p.package [] root) repo
        | inr above ↦ IsWithin.under (drop (length p.package + 1) q.package) repo (above_whole p.package q.package above)
      ]
]

is_within_if : (p q : PackageParts) → IsWithin p q → is_within p q ≡ true
is_within_if p q (IsWithin.itself is) = or_first (is_package p q) _ (is_same_package p q is)
is_within_if p q (IsWithin.below_root root repo) =
    or_second (is_package p q) _ (two_true _ _ (equal_bytes q.repo p.repo repo) (or_first (bytes_eq p.package []) _ (equal_bytes p.package [] root)))
is_within_if p q (IsWithin.under rest repo is) =
    let above : is_above p.package q.package ≡ true = ap (is_above p.package) is ∙ above_joined p.package rest in
    or_second (is_package p q) _ (two_true _ _ (equal_bytes q.repo p.repo repo) (or_second (bytes_eq p.package []) _ above))

-- a pattern over a package names what begins so, where that has a valid label
both_ways : (a b : Bool) → (a ≡ true → b ≡ true) → (b ≡ true → a ≡ true) → a ≡ b
both_ways true b f g = sym (f refl)
both_ways false true f g = g refl
both_ways false false f g = refl

module _ (p : PackageParts) (t : Target) (hp : IsPackage p) where
  own_named : (rules : Bool) → names (pattern_at false rules p) t ≡ true → (package_of t.label ≡ p) × (is_wanted rules t ≡ true)
  own_named true h = (same_package p (package_of t.label) (first_of_two _ _ h), or_first (is_rule t) false (second_of_two (is_package p (package_of t.label)) (is_rule t) h))
  own_named false h = (same_package p (package_of t.label) h, or_second (is_rule t) true refl)

  named_own : (rules : Bool) → (package_of t.label ≡ p) × (is_wanted rules t ≡ true) → names (pattern_at false rules p) t ≡ true
  named_own true h = two_true _ _ (is_same_package p (package_of t.label) h.0) (or_no (is_rule t) h.1)
  named_own false h = is_same_package p (package_of t.label) h.0

  within_named : (rules : Bool) → names (pattern_at true rules p) t ≡ true → IsWithin p (package_of t.label) × (is_wanted rules t ≡ true)
  within_named true h = (within_from p (package_of t.label) (first_of_two _ _ h), or_first (is_rule t) false (second_of_two (is_within p (package_of t.label)) (is_rule t) h))
  within_named false h = (within_from p (package_of t.label) h, or_second (is_rule t) true refl)

  named_within : (rules : Bool) → IsWithin p (package_of t.label) × (is_wanted rules t ≡ true) → names (pattern_at true rules p) t ≡ true
  named_within true h = two_true _ _ (is_within_if p (package_of t.label) h.0) (or_no (is_rule t) h.1)
  named_within false h = is_within_if p (package_of t.label) h.0

pub same_named : (deep rules : Bool) (p : PackageParts) (t : Target) → IsPackage p → (names_in deep rules p t ≡ true → IsLabel t.label) → names (pattern_at deep rules p) t ≡ names_in deep rules p t
same_named false rules p t hp hl = both_ways _ _ (λ h. is_of_it p t rules (own_named p t hp rules h)) (λ h. named_own p t hp rules (of_it p t rules hp (hl h) h))
same_named true rules p t hp hl = both_ways _ _ (λ h. is_beneath_it p t rules (within_named p t hp rules h)) (λ h. named_within p t hp rules (beneath_it p t rules hp (hl h) h))

-- ---- words

-- what a part that names was read as
read_from : {A : Type 0} (f : A → TargetPattern) (o : Option A) (p : TargetPattern) → option_map f o ≡ Some p → (x : A) × (o ≡ Some x) × (p ≡ f x)
read_from f None p h = absurd (cc h)
read_from f (Some x) p h = (x, refl, sym (some_is h))

module _ (part : List ℕ) (t : Target) (hl : IsLabel t.label) where
  abbrev IsSaid : PatternForm → TargetPattern → Type 0
  IsSaid f p = (names p t ≡ true) ↔ NamesBy f part t

  label_said : (l : LabelParts) → label_named part ≡ Some l → IsSaid form.Target (pattern.Target l)
  label_said l e = (
    λ h. e ∙ ap Some (sym (one_full_form t.label l hl (label_valid part l e) (same_bytes (full_form t.label) (full_form l) h))),
    λ h. equal_bytes (full_form t.label) (full_form l) (ap full_form (some_is (sym h ∙ e))),
  )

  module _ (p : PackageParts) (e : package_of_text part ≡ Some p) where
    valid : IsPackage p
    valid = (package_read part p e).1

    -- the part names one package
    one : (q : PackageParts) → package_of_text part ≡ Some q → q ≡ p
    one q h = some_is (sym h ∙ e)

    rules_said : IsSaid form.Rules (pattern.Rules p)
    rules_said = (
      λ h. let g = own_named p t valid true h in (p, e, g.0, or_no (is_rule t) g.1),
      λ h. named_own p t valid true (h.2 ∙ one h.0 h.1, or_first (is_rule t) false h.3),
    )

    all_said : IsSaid form.All (pattern.All p)
    all_said = (
      λ h. (p, e, (own_named p t valid false h).0),
      λ h. named_own p t valid false (h.2 ∙ one h.0 h.1, or_second (is_rule t) true refl),
    )

    within_it : (q : PackageParts) → package_of_text part ≡ Some q → IsWithin q (package_of t.label) → IsWithin p (package_of t.label)
    within_it q h w = subst (λ (x : PackageParts). IsWithin x (package_of t.label)) (one q h) w

    rules_beneath_said : IsSaid form.RulesBeneath (pattern.RulesBeneath p)
    rules_beneath_said = (
      λ h. let g = within_named p t valid true h in (p, e, g.0, or_no (is_rule t) g.1),
      λ h. named_within p t valid true (within_it h.0 h.1 h.2, or_first (is_rule t) false h.3),
    )

    all_beneath_said : IsSaid form.AllBeneath (pattern.AllBeneath p)
    all_beneath_said = (
      λ h. (p, e, (within_named p t valid false h).0),
      λ h. named_within p t valid false (within_it h.0 h.1 h.2, or_second (is_rule t) true refl),
    )

  as_read : {A : Type 0} (f : PatternForm) (make : A → TargetPattern) (o : Option A) (p : TargetPattern) → option_map make o ≡ Some p → ((x : A) → o ≡ Some x → IsSaid f (make x)) → IsSaid f p
  as_read f make o p h said = let r = read_from make o p h in subst (IsSaid f) (sym r.2) (said r.0 r.1)

  names_is : (f : PatternForm) (p : TargetPattern) → pattern_by f part ≡ Some p → IsSaid f p
  names_is form.Target p h = as_read form.Target pattern.Target (label_named part) p h label_said
  names_is form.Rules p h = as_read form.Rules pattern.Rules (package_of_text part) p h rules_said
  names_is form.All p h = as_read form.All pattern.All (package_of_text part) p h all_said
  names_is form.RulesBeneath p h = as_read form.RulesBeneath pattern.RulesBeneath (package_of_text part) p h rules_beneath_said
  names_is form.AllBeneath p h = as_read form.AllBeneath pattern.AllBeneath (package_of_text part) p h all_beneath_said

pub words_name_labels_and_packages : WordsNameLabelsAndPackages
unfolding pattern_of
words_name_labels_and_packages word p t h hl = names_is (word_form word).1 t hl (word_form word).0 p h
