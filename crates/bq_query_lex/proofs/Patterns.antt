-- A word with dots is a pattern exactly where the dots follow a package.
use Rattle.std.proofs.Common.{◌≡◌, ◌≢◌, ◌⊎◌, ◌∙◌, ℕ, ◌+◌, ◌-◌, ◌++◌, Bool, true, false, List, [], ◌∷◌, Option, Some, None, length, take, drop, codes, nat_eq, refl, sym, ap, append_assoc, arith, length-append, inl, inr}
use Rattle.std.specs.Prelude.{◌||◌, not, if◌then◌else◌}
use Rattle.std.specs.List.{ends_with, list_any}
use Rattle.std.proofs.Math.Seq.{take-append-add}
use Rattle.std.proofs.lemmas.Bool.{cases_Bool, false≢true}
use Rattle.std.proofs.lemmas.Bool.Decides.{Decides-eqb}
use Rattle.std.proofs.lemmas.List.{append_cancel_right, append-nil}
use Rattle.std.proofs.lemmas.List.Folds.{list_any-append}
use Rattle.std.proofs.lemmas.Slice.Eq.{ends_is}
use Rattle.bq_label.specs.Paths.{is_package, is_path, is_path_byte, is_repository, is_repository_byte}
use Rattle.bq_label.specs.Label.{PackageParts, LabelParts, IsLabel, IsPackage, IsWritten, Spells, absolute, bare_name, external, external_short, label_at, own_name, package_at, package_of, repository, short}
use Rattle.bq_label.specs.Reading.{package_of_text}
use Rattle.bq_label.proofs.PackageTexts.{package_read, package_written}
use Rattle.bq_label.proofs.Readings.{label_from_reading, no_colon, none_of, path_bytes}
use Rattle.bq_label.proofs.Segments.{path_joined}
use Rattle.bq_query_lex.specs.declared.target_pattern.PatternForm.{PatternForm}
use Rattle.bq_query_lex.specs.declared.target_pattern.PatternForm.TheVariants as form
use Rattle.bq_query_lex.specs.TargetPatterns.{begins_pattern, endings, form_by, is_colon, part_before, word_form}
use Rattle.bq_query_lex.proofs.Endings.{Ending, form_or}
use Rattle.bq_query_lex.specs.DotPatterns.{DotsFollowAPackage, IsDots, IsPattern, dots_by}
use Rattle.bq_query_lex.specs.PatternReading.{label_named}
use Rattle.bq_query_lex.proofs.Names.{same_cut, some_is}

-- ---- last bytes

abbrev last_byte : ℕ → List ℕ → ℕ
last_byte d [] = d
last_byte d (x ∷ xs) = last_byte x xs

pub last_append : (xs : List ℕ) (d y : ℕ) (ys : List ℕ) → last_byte d (xs ++ y ∷ ys) ≡ last_byte y ys
last_append [] d y ys = refl
last_append (x ∷ xs) d y ys = last_append xs x y ys

-- texts that are equal end with one byte
last_same : (xs us : List ℕ) (y v : ℕ) (ys vs : List ℕ) → xs ++ y ∷ ys ≡ us ++ v ∷ vs → last_byte y ys ≡ last_byte v vs
last_same xs us y v ys vs e = sym (last_append xs 0 y ys) ∙ (ap (last_byte 0) e ∙ last_append us 0 v vs)

last_split : (b : ℕ) (bs : List ℕ) → (front : List ℕ) × (b ∷ bs ≡ front ++ last_byte b bs ∷ [])
last_split b [] = ([], refl)
last_split b (d ∷ ds) = let more = last_split d ds in (b ∷ more.0, ap (λ xs. b ∷ xs) more.1)

pub empty_no_path : is_path [] ≡ true → ⊥
unfolding is_path
empty_no_path h = false≢true h

-- a path ends with no slash
path_ends : (b : ℕ) (bs : List ℕ) → is_package (b ∷ bs) ≡ true → last_byte b bs ≡ 47 → ⊥
unfolding is_package
path_ends b bs h e =
    let cut = last_split b bs in
    let whole : b ∷ bs ≡ cut.0 ++ 47 ∷ [] = cut.1 ∙ ap (λ x. cut.0 ++ x ∷ []) e in
    empty_no_path (path_joined cut.0 [] (sym (ap is_path whole) ∙ h)).1

-- ---- what names a package

module _ (p : PackageParts) (hp : IsPackage p) where
  written_in : (text n : List ℕ) → Spells p text → IsWritten (package_at [] []) (text ++ 58 ∷ n) (label_at p.repo p.package n)
  written_in text n (Spells.main repo is) = absolute (ap (λ (t : List ℕ). t ++ 58 ∷ n) is) repo
  written_in text n (Spells.other is) = external (ap (λ (t : List ℕ). t ++ 58 ∷ n) is ∙ ap (λ (t : List ℕ). 64 ∷ t) (append_assoc p.repo (47 ∷ 47 ∷ p.package) (58 ∷ n)))

  -- what names the package, a colon and a name are a label
  pub label_in_it : (text n : List ℕ) → Spells p text → is_path n ≡ true → label_named (text ++ 58 ∷ n) ≡ Some (label_at p.repo p.package n)
  label_in_it text n h valid =
      let its : IsLabel (label_at p.repo p.package n) = record { valid_repo = hp.valid_repo; valid_package = hp.valid_package; valid_name = valid } in
      label_from_reading (package_at [] []) (text ++ 58 ∷ n) (label_at p.repo p.package n) (record { written = written_in text n h; valid = its })

  pub named : (text : List ℕ) → Spells p text → package_of_text text ≡ Some p
  named text h = package_written text p h hp

  pub no_colon_in : (r x : List ℕ) → is_repository r ≡ true → is_package x ≡ true → list_any is_colon (r ++ 47 ∷ 47 ∷ x) ≡ false
  unfolding is_repository
  no_colon_in r x hr hx = list_any-append is_colon r (47 ∷ 47 ∷ x) ∙ rw (none_of is_repository_byte 58 refl r hr, no_colon x hx) refl

  pub plain : (text : List ℕ) → Spells p text → list_any is_colon text ≡ false
  plain text (Spells.main repo is) = ap (list_any is_colon) is ∙ no_colon p.package hp.valid_package
  plain text (Spells.other is) = ap (list_any is_colon) is ∙ no_colon_in p.repo p.package hp.valid_repo hp.valid_package

  -- what is before the package's path
  pub front_of : (text : List ℕ) → Spells p text → (front : List ℕ) × (text ≡ front ++ 47 ∷ 47 ∷ p.package)
  front_of text (Spells.main repo is) = ([], is)
  front_of text (Spells.other is) = (64 ∷ p.repo, is)

  -- it ends with a slash for the root alone
  pub is_root : (text : List ℕ) → Spells p text → (front : List ℕ) → text ≡ front ++ 47 ∷ [] → p.package ≡ []
  is_root text h front e = by_path p.package refl
    where
      by_path : (path : List ℕ) → p.package ≡ path → path ≡ []
      by_path [] is = refl
      by_path (b ∷ bs) is =
          let f = front_of text h in
          let whole : (f.0 ++ 47 ∷ 47 ∷ []) ++ b ∷ bs ≡ front ++ 47 ∷ [] = append_assoc f.0 (47 ∷ 47 ∷ []) (b ∷ bs) ∙ (ap (λ (x : List ℕ). f.0 ++ 47 ∷ 47 ∷ x) (sym is) ∙ (sym f.1 ∙ e)) in
          absurd (path_ends b bs (sym (ap is_package is) ∙ hp.valid_package) (last_same (f.0 ++ 47 ∷ 47 ∷ []) front b 47 bs [] whole))

pub has_colon : (xs rest : List ℕ) → list_any is_colon (xs ++ 58 ∷ rest) ≡ false → ⊥
has_colon xs rest h = false≢true (sym h ∙ (list_any-append is_colon xs (58 ∷ rest) ∙ or_true (list_any is_colon xs)))
  where
    or_true : (b : Bool) → (b || true) ≡ true
    or_true true = refl
    or_true false = refl

-- the part of a word that begins as a pattern, before an end
module _ (part : List ℕ) (none : list_any is_colon part ≡ false) (some : part ≢ []) where
  pub spelled_by : (n : List ℕ) (l : LabelParts) → IsLabel l → IsWritten (package_at [] []) (part ++ 58 ∷ n) l → Spells (package_of l) part
  unfolding is_repository
  spelled_by n l h (absolute t r) = Spells.main r (same_cut 58 part n (47 ∷ 47 ∷ l.package) l.name none (no_colon l.package h.valid_package) t).0
  spelled_by n l h (short t m r) = absurd (has_colon part n (ap (list_any is_colon) t ∙ no_colon l.package h.valid_package))
  spelled_by n l h (own_name t e) = absurd (some (same_cut 58 part n [] l.name none refl t).0)
  spelled_by n l h (bare_name t b e) = absurd (has_colon part n (ap (list_any is_colon) t ∙ none_of is_path_byte 58 refl l.name (path_bytes l.name h.valid_name)))
  spelled_by n l h (external t) =
      let whole : part ++ 58 ∷ n ≡ (64 ∷ (l.repo ++ 47 ∷ 47 ∷ l.package)) ++ 58 ∷ l.name = t ∙ ap (λ (x : List ℕ). 64 ∷ x) (sym (append_assoc l.repo (47 ∷ 47 ∷ l.package) (58 ∷ l.name))) in
      let valid : IsPackage (package_of l) = record { valid_repo = h.valid_repo; valid_package = h.valid_package } in
      Spells.other (same_cut 58 part n (64 ∷ (l.repo ++ 47 ∷ 47 ∷ l.package)) l.name none (no_colon_in (package_of l) valid l.repo l.package h.valid_repo h.valid_package) whole).0
  spelled_by n l h (external_short t m) =
      let valid : IsPackage (package_of l) = record { valid_repo = h.valid_repo; valid_package = h.valid_package } in
      absurd (has_colon part n (ap (list_any is_colon) t ∙ no_colon_in (package_of l) valid l.repo l.package h.valid_repo h.valid_package))
  spelled_by n l h (repository t e m) = absurd (has_colon part n (ap (list_any is_colon) t ∙ none_of is_repository_byte 58 refl l.repo h.valid_repo))

-- ---- endings

module _ (word : List ℕ) where
  pub fits : (end : List ℕ) (dropped : ℕ) (front kept part : List ℕ) → word ≡ front ++ end → length end ≡ length kept + dropped → take (length kept) end ≡ kept → part ≡ front ++ kept → list_any is_colon part ≡ false
      → part_before end dropped word ≡ Some part
  unfolding part_before
  fits end dropped front kept part whole long begins is none =
      let ends : ends_with nat_eq word end ≡ true = (ends_is Decides-eqb word end (ends_with nat_eq word end) refl).1 front whole in
      let count : length word - dropped ≡ length front + length kept = omega (arith, ap length whole, length-append front end, long) in
      let taken : take (length word - dropped) word ≡ part = ap (λ n. take n word) count ∙ (ap (take (length front + length kept)) whole ∙ (take-append-add front end (length kept) ∙ (ap (λ (x : List ℕ). front ++ x) begins ∙ sym is))) in
      rw (ends, taken, none) refl

  pub unfit : (end : List ℕ) (dropped : ℕ) → ((front : List ℕ) → word ≡ front ++ end → ⊥) → part_before end dropped word ≡ None
  unfolding part_before
  unfit end dropped never = elim (cases_Bool (ends_with nat_eq word end)) [
    | inl y ↦ absurd (never (take (length word - length end) word) ((ends_is Decides-eqb word end (ends_with nat_eq word end) refl).0 y))
    | inr n ↦ rw n refl
  ]

  -- what is known of a word that ends so
  pub record Parted (end kept part : List ℕ) : Type 0 where
    pub front : List ℕ
    pub whole : word ≡ front ++ end
    pub part_is : part ≡ front ++ kept
    pub none : list_any is_colon part ≡ false

  abbrev package_part : List ℕ → Option (List ℕ)
  package_part part = if not (list_any is_colon part) then Some part else None

  part_by : (part found : List ℕ) → package_part found ≡ Some part → (found ≡ part) × (list_any is_colon part ≡ false)
  part_by part found h = elim (cases_Bool (list_any is_colon found)) [
    | inl y ↦ let no : None ≡ Some part = sym (rw y refl) ∙ h in absurd (cc no)
    | inr n ↦ let is : found ≡ part = some_is (sym (rw n refl) ∙ h) in (is, sym (ap (list_any is_colon) is) ∙ n)
  ]

  pub parted : (end : List ℕ) (dropped : ℕ) (kept part : List ℕ) → length end ≡ length kept + dropped → take (length kept) end ≡ kept → part_before end dropped word ≡ Some part → Parted end kept part
  unfolding part_before
  parted end dropped kept part long begins h = elim (cases_Bool (ends_with nat_eq word end)) [
    | inl y ↦
        let front : List ℕ = take (length word - length end) word in
        let whole : word ≡ front ++ end = (ends_is Decides-eqb word end (ends_with nat_eq word end) refl).0 y in
        let found = part_by part (take (length word - dropped) word) (sym (rw y refl) ∙ h) in
        let count : length word - dropped ≡ length front + length kept = omega (arith, ap length whole, length-append front end, long) in
        let taken : take (length word - dropped) word ≡ front ++ kept = ap (λ n. take n word) count ∙ (ap (take (length front + length kept)) whole ∙ (take-append-add front end (length kept) ∙ ap (λ (x : List ℕ). front ++ x) begins)) in
        record { front = front; whole = whole; part_is = sym found.0 ∙ taken; none = found.1 }
    | inr n ↦ let no : None ≡ Some part = sym (rw n refl) ∙ h in absurd (cc no)
  ]

  -- ---- the first ending that fits

  abbrev pub FirstFit : List Ending → PatternForm → List ℕ → Type 0
  FirstFit [] f part = ⊥
  FirstFit (e ∷ es) f part = ((e.2 ≡ f) × (part_before e.0 e.1 word ≡ Some part)) ⊎ ((part_before e.0 e.1 word ≡ None) × FirstFit es f part)

  fit_by : (e : Ending) (es : List Ending) (f : PatternForm) (part : List ℕ) (o : Option (List ℕ)) → part_before e.0 e.1 word ≡ o → (form_or e.2 (form_by es word) o).0 ≡ f → (form_or e.2 (form_by es word) o).1 ≡ part
      → ((form_by es word).0 ≡ f → (form_by es word).1 ≡ part → (form.Target ≡ f) ⊎ FirstFit es f part) → (form.Target ≡ f) ⊎ FirstFit (e ∷ es) f part
  fit_by e es f part None is hf hp more = elim (more hf hp) [ inl t ↦ inl t | inr m ↦ inr (inr (is, m)) ]
  fit_by e es f part (Some x) is hf hp more = inr (inl (hf, is ∙ ap Some hp))

  pub first_fit : (es : List Ending) (f : PatternForm) (part : List ℕ) → (form_by es word).0 ≡ f → (form_by es word).1 ≡ part → (form.Target ≡ f) ⊎ FirstFit es f part
  first_fit [] f part hf hp = inl hf
  first_fit (e ∷ es) f part hf hp = fit_by e es f part (part_before e.0 e.1 word) refl hf hp (first_fit es f part)

  chosen_by : (e : Ending) (es : List Ending) (f : PatternForm) (part : List ℕ) (o : Option (List ℕ)) → ((e.2 ≡ f) × (o ≡ Some part)) ⊎ ((o ≡ None) × (((form_by es word).0 ≡ f) × ((form_by es word).1 ≡ part)))
      → ((form_or e.2 (form_by es word) o).0 ≡ f) × ((form_or e.2 (form_by es word) o).1 ≡ part)
  chosen_by e es f part None (inl h) = absurd (cc h.1)
  chosen_by e es f part (Some x) (inl h) = (h.0, some_is h.1)
  chosen_by e es f part None (inr h) = h.1
  chosen_by e es f part (Some x) (inr h) = absurd (cc h.0)

  chosen : (es : List Ending) (f : PatternForm) (part : List ℕ) → FirstFit es f part → ((form_by es word).0 ≡ f) × ((form_by es word).1 ≡ part)
  chosen [] f part h = absurd h
  chosen (e ∷ es) f part (inl h) = chosen_by e es f part (part_before e.0 e.1 word) (inl h)
  chosen (e ∷ es) f part (inr h) = chosen_by e es f part (part_before e.0 e.1 word) (inr (h.0, chosen es f part h.1))

  -- no ending of another form is it
  skipped : (e : Ending) (es : List Ending) (f : PatternForm) (part : List ℕ) → (e.2 ≡ f → ⊥) → FirstFit (e ∷ es) f part → FirstFit es f part
  skipped e es f part never (inl h) = absurd (never h.0)
  skipped e es f part never (inr h) = h.1

  unfit_last : (y : ℕ) (ys : List ℕ) (dropped : ℕ) → (last_byte 0 word ≡ last_byte y ys → ⊥) → part_before (y ∷ ys) dropped word ≡ None
  unfit_last y ys dropped never = unfit (y ∷ ys) dropped (λ front whole. never (ap (last_byte 0) whole ∙ last_append front 0 y ys))

pub not_empty : (xs : List ℕ) (y : ℕ) (ys : List ℕ) → xs ++ y ∷ ys ≡ [] → ⊥
not_empty [] y ys e = cc e
not_empty (x ∷ xs) y ys e = cc e

-- ---- dots and an end after a package

abbrev pub root_end : List ℕ → List ℕ
root_end s = 47 ∷ 47 ∷ 46 ∷ 46 ∷ 46 ∷ s

abbrev pub other_end : List ℕ → List ℕ
other_end s = 47 ∷ 46 ∷ 46 ∷ 46 ∷ s

module _ (word : List ℕ) (p : PackageParts) (hp : IsPackage p) (s : List ℕ) (n m : ℕ) (long : length (root_end s) ≡ 2 + n) (short : length (other_end s) ≡ m) where
  from_root : (part : List ℕ) → package_of_text part ≡ Some p → part_before (root_end s) n word ≡ Some part → IsDots p s word
  from_root part names h =
      let cut = parted word (root_end s) n (47 ∷ 47 ∷ []) part long refl h in
      let some : part ≢ [] = λ e. not_empty cut.front 47 (47 ∷ []) (sym cut.part_is ∙ e) in
      let spells : Spells p part = (package_read part p names).0 in
      let root : p.package ≡ [] = is_root p hp part spells (cut.front ++ 47 ∷ []) (cut.part_is ∙ sym (append_assoc cut.front (47 ∷ []) (47 ∷ []))) in
      let whole : word ≡ part ++ 46 ∷ 46 ∷ 46 ∷ s = cut.whole ∙ (sym (append_assoc cut.front (47 ∷ 47 ∷ []) (46 ∷ 46 ∷ 46 ∷ s)) ∙ ap (λ (x : List ℕ). x ++ 46 ∷ 46 ∷ 46 ∷ s) (sym cut.part_is)) in
      (part, spells, whole ∙ ap (λ (x : List ℕ). part ++ (dots_by x ++ s)) (sym root))

  -- before the root's two slashes and `/...` stands one more slash, with which the other ending fits
  fits_root : (part : List ℕ) → Spells p part → p.package ≡ [] → word ≡ part ++ other_end s → part_before (root_end s) n word ≡ Some (part ++ 47 ∷ [])
  fits_root part spells root whole =
      let f = front_of p hp part spells in
      let is : part ≡ f.0 ++ 47 ∷ 47 ∷ [] = f.1 ∙ ap (λ (x : List ℕ). f.0 ++ 47 ∷ 47 ∷ x) root in
      fits word (root_end s) n (f.0 ++ 47 ∷ []) (47 ∷ 47 ∷ []) (part ++ 47 ∷ [])
      (whole ∙ (ap (λ (x : List ℕ). x ++ other_end s) is ∙ (append_assoc f.0 (47 ∷ 47 ∷ []) (other_end s) ∙ sym (append_assoc f.0 (47 ∷ []) (root_end s)))))
      long refl
      (ap (λ (x : List ℕ). x ++ 47 ∷ []) is ∙ (append_assoc f.0 (47 ∷ 47 ∷ []) (47 ∷ []) ∙ sym (append_assoc f.0 (47 ∷ []) (47 ∷ 47 ∷ []))))
      (list_any-append is_colon part (47 ∷ []) ∙ rw (plain p hp part spells) refl)

  by_path : (part : List ℕ) → Spells p part → part_before (root_end s) n word ≡ None → word ≡ part ++ other_end s → (path : List ℕ) → p.package ≡ path → IsDots p s word
  by_path part spells none whole [] root = let no : None ≡ Some (part ++ 47 ∷ []) = sym none ∙ fits_root part spells root whole in absurd (cc no)
  by_path part spells none whole (b ∷ bs) is = (part, spells, whole ∙ ap (λ (x : List ℕ). part ++ (dots_by x ++ s)) (sym is))

  from_other : begins_pattern word ≡ true → (part : List ℕ) → package_of_text part ≡ Some p → part_before (root_end s) n word ≡ None → part_before (other_end s) m word ≡ Some part → IsDots p s word
  from_other begins part names none h =
      let cut = parted word (other_end s) m [] part (omega (arith, short)) refl h in
      let is : part ≡ cut.front = cut.part_is ∙ append-nil cut.front in
      let whole : word ≡ part ++ other_end s = cut.whole ∙ ap (λ (x : List ℕ). x ++ other_end s) (sym is) in
      let some : part ≢ [] = λ e. let alone : word ≡ other_end s = whole ∙ ap (λ (x : List ℕ). x ++ other_end s) e in false≢true (ap begins_pattern (sym alone) ∙ begins) in
      by_path part (package_read part p names).0 none whole p.package refl

  module _ (f : PatternForm) (es : List Ending) (text : List ℕ) (spells : Spells p text) where
    abbrev Chosen : Type 0
    Chosen = FirstFit word ((root_end s, n, f) ∷ (other_end s, m, f) ∷ es) f text

    after_root : p.package ≡ [] → word ≡ text ++ 46 ∷ 46 ∷ 46 ∷ s → Chosen
    after_root root whole =
        let g = front_of p hp text spells in
        let is : text ≡ g.0 ++ 47 ∷ 47 ∷ [] = g.1 ∙ ap (λ (x : List ℕ). g.0 ++ 47 ∷ 47 ∷ x) root in
        inl (
          refl,
          fits word (root_end s) n g.0 (47 ∷ 47 ∷ []) text (whole ∙ (ap (λ (x : List ℕ). x ++ 46 ∷ 46 ∷ 46 ∷ s) is ∙ append_assoc g.0 (47 ∷ 47 ∷ []) (46 ∷ 46 ∷ 46 ∷ s))) long refl is (plain p hp text spells),
        )

    after_other : (p.package ≡ [] → ⊥) → word ≡ text ++ other_end s → Chosen
    after_other some whole = inr (
      unfit word (root_end s) n (λ front ends. some (is_root p hp text spells front (append_cancel_right text (front ++ 47 ∷ []) (other_end s) (sym whole ∙ (ends ∙ sym (append_assoc front (47 ∷ []) (other_end s))))))),
      inl (refl, fits word (other_end s) m text [] text whole (omega (arith, short)) refl (sym (append-nil text)) (plain p hp text spells)),
    )

    chosen_dots : (path : List ℕ) → p.package ≡ path → word ≡ text ++ (dots_by path ++ s) → Chosen
    chosen_dots [] is whole = after_root is whole
    chosen_dots (b ∷ bs) is whole = after_other (λ root. let no : b ∷ bs ≡ [] = sym is ∙ root in cc no) whole

-- the last byte of a word with dots
ends_by : (text path s : List ℕ) → last_byte 0 (text ++ (dots_by path ++ s)) ≡ last_byte 46 s
ends_by text [] s = last_append text 0 46 (46 ∷ 46 ∷ s)
ends_by text (b ∷ bs) s = last_append text 0 47 (46 ∷ 46 ∷ 46 ∷ s)

module _ (p : PackageParts) (word : List ℕ) (hp : IsPackage p) where
  pattern_is : (f : PatternForm) (text : List ℕ) → Spells p text → FirstFit word endings f text → IsPattern f p word
  pattern_is f text spells h = let c = chosen word endings f text h in (c.0, ap package_of_text c.1 ∙ named p hp text spells)

  -- a word that ends with another byte than these two endings
  past : (y z : ℕ) (ys zs : List ℕ) (n m : ℕ) (g f : PatternForm) (es : List Ending) (text : List ℕ) → (last_byte 0 word ≡ last_byte y ys → ⊥) → (last_byte 0 word ≡ last_byte z zs → ⊥) → FirstFit word es f text
      → FirstFit word ((y ∷ ys, n, g) ∷ (z ∷ zs, m, g) ∷ es) f text
  past y z ys zs n m g f es text no_first no_second h = inr (unfit_last word y ys n no_first, inr (unfit_last word z zs m no_second, h))

  -- no ending of this list has the form
  abbrev pub AllOther : List Ending → PatternForm → Type 0
  AllOther [] f = Unit {0}
  AllOther (e ∷ es) f = (e.2 ≡ f → ⊥) × AllOther es f

  pub skip_all : (skip es : List Ending) (f : PatternForm) (part : List ℕ) → AllOther skip f → FirstFit word (skip ++ es) f part → FirstFit word es f part
  skip_all [] es f part others h = h
  skip_all (e ∷ skip) es f part others h = skip_all skip es f part others.1 (skipped word e (skip ++ es) f part others.0 h)

  -- ---- rules

  pub rules_to : IsDots p [] word ⊎ IsDots p (codes ":all") word → IsPattern form.RulesBeneath p word
  rules_to (inl d) = pattern_is form.RulesBeneath d.0 d.1 (chosen_dots word p hp [] 3 4 refl refl form.RulesBeneath (drop 2 endings) d.0 d.1 p.package refl d.2)
  rules_to (inr d) =
      let ends : last_byte 0 word ≡ 108 = ap (last_byte 0) d.2 ∙ ends_by d.0 p.package (codes ":all") in
      let no : last_byte 0 word ≡ 46 → ⊥ = λ e. omega (arith, ends, e) in
      pattern_is form.RulesBeneath d.0 d.1
      (past 47 47 (codes "/...") (codes "...") 3 4 form.RulesBeneath form.RulesBeneath (drop 2 endings) d.0 no no (chosen_dots word p hp (codes ":all") 7 8 refl refl form.RulesBeneath (drop 4 endings) d.0 d.1 p.package refl d.2))

  pub all_to : IsDots p (codes ":*") word ⊎ IsDots p (codes ":all-targets") word → IsPattern form.AllBeneath p word
  all_to (inl d) =
      let ends : last_byte 0 word ≡ 42 = ap (last_byte 0) d.2 ∙ ends_by d.0 p.package (codes ":*") in
      let no_dot : last_byte 0 word ≡ 46 → ⊥ = λ e. omega (arith, ends, e) in
      let no_l : last_byte 0 word ≡ 108 → ⊥ = λ e. omega (arith, ends, e) in
      pattern_is form.AllBeneath d.0 d.1
      (past 47 47 (codes "/...") (codes "...") 3 4 form.RulesBeneath form.AllBeneath (drop 2 endings) d.0 no_dot no_dot
      (past 47 47 (codes "/...:all") (codes "...:all") 7 8 form.RulesBeneath form.AllBeneath (drop 4 endings) d.0 no_l no_l
      (chosen_dots word p hp (codes ":*") 5 6 refl refl form.AllBeneath (drop 6 endings) d.0 d.1 p.package refl d.2)))
  all_to (inr d) =
      let ends : last_byte 0 word ≡ 115 = ap (last_byte 0) d.2 ∙ ends_by d.0 p.package (codes ":all-targets") in
      let no_dot : last_byte 0 word ≡ 46 → ⊥ = λ e. omega (arith, ends, e) in
      let no_l : last_byte 0 word ≡ 108 → ⊥ = λ e. omega (arith, ends, e) in
      let no_star : last_byte 0 word ≡ 42 → ⊥ = λ e. omega (arith, ends, e) in
      pattern_is form.AllBeneath d.0 d.1
      (past 47 47 (codes "/...") (codes "...") 3 4 form.RulesBeneath form.AllBeneath (drop 2 endings) d.0 no_dot no_dot
      (past 47 47 (codes "/...:all") (codes "...:all") 7 8 form.RulesBeneath form.AllBeneath (drop 4 endings) d.0 no_l no_l
      (past 47 47 (codes "/...:*") (codes "...:*") 5 6 form.AllBeneath form.AllBeneath (drop 6 endings) d.0 no_star no_star
      (chosen_dots word p hp (codes ":all-targets") 15 16 refl refl form.AllBeneath (drop 8 endings) d.0 d.1 p.package refl d.2))))

  module _ (begins : begins_pattern word ≡ true) (part : List ℕ) (names : package_of_text part ≡ Some p) where
    rules_by : FirstFit word endings form.RulesBeneath part → IsDots p [] word ⊎ IsDots p (codes ":all") word
    rules_by (inl a) = inl (from_root word p hp [] 3 4 refl refl part names a.1)
    rules_by (inr (first, inl a)) = inl (from_other word p hp [] 3 4 refl refl begins part names first a.1)
    rules_by (inr (first, inr (second, inl a))) = inr (from_root word p hp (codes ":all") 7 8 refl refl part names a.1)
    rules_by (inr (first, inr (second, inr (third, inl a)))) = inr (from_other word p hp (codes ":all") 7 8 refl refl begins part names third a.1)
    rules_by (inr (first, inr (second, inr (third, inr (fourth, rest))))) =
        absurd (skip_all (drop 4 endings) [] form.RulesBeneath part (λ e. cc e, (λ e. cc e, (λ e. cc e, (λ e. cc e, (λ e. cc e, (λ e. cc e, (λ e. cc e, tt))))))) rest)

    all_after : FirstFit word (drop 4 endings) form.AllBeneath part → IsDots p (codes ":*") word ⊎ IsDots p (codes ":all-targets") word
    all_after (inl a) = inl (from_root word p hp (codes ":*") 5 6 refl refl part names a.1)
    all_after (inr (first, inl a)) = inl (from_other word p hp (codes ":*") 5 6 refl refl begins part names first a.1)
    all_after (inr (first, inr (second, inl a))) = inr (from_root word p hp (codes ":all-targets") 15 16 refl refl part names a.1)
    all_after (inr (first, inr (second, inr (third, inl a)))) = inr (from_other word p hp (codes ":all-targets") 15 16 refl refl begins part names third a.1)
    all_after (inr (first, inr (second, inr (third, inr (fourth, rest))))) = absurd (skip_all (drop 8 endings) [] form.AllBeneath part (λ e. cc e, (λ e. cc e, (λ e. cc e, tt))) rest)

    all_by : FirstFit word endings form.AllBeneath part → IsDots p (codes ":*") word ⊎ IsDots p (codes ":all-targets") word
    all_by h = all_after (skip_all (take 4 endings) (drop 4 endings) form.AllBeneath part (λ e. cc e, (λ e. cc e, (λ e. cc e, (λ e. cc e, tt)))) h)

  pub rules_from : begins_pattern word ≡ true → IsPattern form.RulesBeneath p word → IsDots p [] word ⊎ IsDots p (codes ":all") word
  rules_from begins h = elim (first_fit word endings form.RulesBeneath (word_form word).1 h.0 refl) [ inl t ↦ absurd (cc t) | inr fit ↦ rules_by begins (word_form word).1 h.1 fit ]

  pub all_from : begins_pattern word ≡ true → IsPattern form.AllBeneath p word → IsDots p (codes ":*") word ⊎ IsDots p (codes ":all-targets") word
  all_from begins h = elim (first_fit word endings form.AllBeneath (word_form word).1 h.0 refl) [ inl t ↦ absurd (cc t) | inr fit ↦ all_by begins (word_form word).1 h.1 fit ]

pub dots_follow_a_package : DotsFollowAPackage
dots_follow_a_package p word hp begins = record { rules = (rules_from p word hp begins, rules_to p word hp); all = (all_from p word hp begins, all_to p word hp) }
