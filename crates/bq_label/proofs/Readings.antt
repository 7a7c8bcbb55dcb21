-- The reading function answers as the forms of a label say, both ways.
use Rattle.std.proofs.Common.{◌≡◌, ◌++◌, ◌==◌, ◌&&◌, ◌⊎◌, ℕ, Bool, true, false, List, [], ◌∷◌, Option, Some, None, drop, option_and_then, refl, sym, ap, subst, ◌∙◌, arith, inl, inr}
use Rattle.std.proofs.lemmas.Bool.{cases_Bool}
use Rattle.std.proofs.lemmas.Bool.Decides.{nat_tests}
use Rattle.std.specs.List.{list_any, list_all, slice_split}
use mathlib.Core.Bool.{false≢true}
use Rattle.bq_label.specs.Paths.{is_slash, is_path_byte, is_segment, is_path, is_package, is_repository, is_repository_byte}
use Rattle.bq_label.specs.Label.{PackageParts, LabelParts, label_at, label_in, package_of, IsLabel, IsWritten, absolute, short, own_name, bare_name, external, external_short, repository, ReadsAs, last_segment, full_form, at_sign, BeginsOther}
use Rattle.bq_label.specs.Reading.{split_once, absolute_label, external_label, first_is, parts_of, is_label, valid_label, label_of}
use Rattle.bq_label.proofs.Cases.{label_of_repository, label_of_parts}
use Rattle.bq_label.proofs.Cuts.{cut_joined, cut_none, cut_whole}

-- a byte that fails a test isn't among those that pass
pub none_of : (p : ℕ → Bool) (c : ℕ) → p c ≡ false → (xs : List ℕ) → list_all p xs ≡ true → list_any (λ b. b == c) xs ≡ false
none_of p c n [] h = refl
none_of p c n (b ∷ bs) h = elim (cases_Bool (p b)) [
  | inl y ↦ elim (cases_Bool (b == c)) [
    | inl s ↦ let is : b ≡ c = grind (arith, nat_tests) in absurd (false≢true (sym n ∙ (sym (ap p is) ∙ y)))
    | inr o ↦ rw o (none_of p c n bs (sym (rw y refl) ∙ h))
  ]
  | inr o ↦ absurd (false≢true (sym (rw o refl) ∙ h))
]

pub first_of_two : (a b : Bool) → (a && b) ≡ true → a ≡ true
first_of_two true b h = refl
first_of_two false b h = h

pub second_of_two : (a b : Bool) → (a && b) ≡ true → b ≡ true
second_of_two true b h = h
second_of_two false b h = absurd (false≢true h)

pub path_bytes : (p : List ℕ) → is_path p ≡ true → list_all is_path_byte p ≡ true
unfolding is_path
path_bytes p h = first_of_two _ _ h

pub no_colon : (p : List ℕ) → is_package p ≡ true → list_any (λ b. b == 58) p ≡ false
unfolding is_package
no_colon [] h = refl
no_colon (b ∷ bs) h = none_of is_path_byte 58 refl (b ∷ bs) (path_bytes (b ∷ bs) h)

pub no_slash : (r : List ℕ) → is_repository r ≡ true → list_any (λ b. b == 47) r ≡ false
unfolding is_repository
no_slash r h = none_of is_repository_byte 47 refl r h

-- a valid path begins with neither a slash nor a colon
pub path_begins : (b : ℕ) (bs : List ℕ) → is_path (b ∷ bs) ≡ true → ((b == 47) ≡ false) × ((b == 58) ≡ false)
unfolding is_path
path_begins b bs h =
    let plain : is_path_byte b ≡ true = first_of_two _ _ (first_of_two _ _ h) in
    let segments : list_all is_segment (slice_split is_slash (b ∷ bs)) ≡ true = second_of_two _ _ h in (
      elim (cases_Bool (b == 47)) [
        | inl y ↦ absurd (false≢true (sym (rw y refl) ∙ segments))
        | inr o ↦ o
      ],
      elim (cases_Bool (b == 58)) [
        | inl y ↦ let is : b ≡ 58 = grind (arith, nat_tests) in absurd (false≢true (ap is_path_byte (sym is) ∙ plain))
        | inr o ↦ o
      ],
    )

absolute_whole : (r p n : List ℕ) → is_package p ≡ true → absolute_label r (p ++ 58 ∷ n) ≡ label_at r p n
unfolding absolute_label
absolute_whole r p n h = ap (label_of_parts r (p ++ 58 ∷ n)) (cut_joined 58 p n (no_colon p h))

absolute_short : (r p : List ℕ) → is_package p ≡ true → absolute_label r p ≡ label_at r p (last_segment p)
unfolding absolute_label
absolute_short r p h = ap (label_of_parts r p) (cut_none 58 p (no_colon p h))

external_whole : (r t : List ℕ) → is_repository r ≡ true → external_label (r ++ 47 ∷ 47 ∷ t) ≡ Some (absolute_label r t)
unfolding external_label
external_whole r t h = ap (label_of_repository (r ++ 47 ∷ 47 ∷ t)) (cut_joined 47 r (47 ∷ t) (no_slash r h))

external_alone : (r : List ℕ) → is_repository r ≡ true → external_label r ≡ Some (label_at r [] r)
unfolding external_label
external_alone r h = ap (label_of_repository r) (cut_none 47 r (no_slash r h))

own_label : (own : PackageParts) (l : LabelParts) → package_of l ≡ own → label_in own l.name ≡ l
own_label own l e = ap (λ (p : PackageParts). label_in p l.name) (sym e)

bare : (own : PackageParts) (t : List ℕ) → is_path t ≡ true → BeginsOther at_sign t → parts_of own t ≡ Some (label_in own t)
unfolding parts_of
bare own [] h o = refl
bare own (b ∷ bs) h o =
    let at : (b == 64) ≡ false = grind (arith, nat_tests) in
    rw (at, (path_begins b bs h).0, (path_begins b bs h).1) refl

-- every form names its parts
pub parts_written : (own : PackageParts) (text : List ℕ) (l : LabelParts) → IsLabel l → IsWritten own text l → parts_of own text ≡ Some l
unfolding parts_of
parts_written own text l h (absolute t r) = rw (t, ← r) (ap Some (absolute_whole l.repo l.package l.name h.valid_package))
parts_written own text l h (short t n r) = rw (t, ← r) (ap Some (absolute_short l.repo l.package h.valid_package ∙ ap (λ (x : List ℕ). label_at l.repo l.package x) (sym n)))
parts_written own text l h (own_name t p) = rw t (ap Some (own_label own l p))
parts_written own text l h (bare_name t b p) = rw t (bare own l.name h.valid_name (subst (λ (x : List ℕ). BeginsOther at_sign x) t b) ∙ ap Some (own_label own l p))
parts_written own text l h (external t) = rw t (external_whole l.repo _ h.valid_repo ∙ ap Some (absolute_whole l.repo l.package l.name h.valid_package))
parts_written own text l h (external_short t n) = rw t (external_whole l.repo _ h.valid_repo ∙ ap Some (absolute_short l.repo l.package h.valid_package ∙ ap (λ (x : List ℕ). label_at l.repo l.package x) (sym n)))
parts_written own text l h (repository t p n) = rw t (external_alone l.repo h.valid_repo ∙ ap Some (ap (λ (x : List ℕ). label_at l.repo x l.repo) (sym p) ∙ ap (λ (x : List ℕ). label_at l.repo l.package x) (sym n)))

pub is_label_from : (l : LabelParts) → IsLabel l → is_label l ≡ true
unfolding is_label
is_label_from l h = rw (h.valid_repo, h.valid_package, h.valid_name) refl

pub valid_from : (l : LabelParts) → is_label l ≡ true → IsLabel l
unfolding is_label
valid_from l h = record {
  valid_repo = first_of_two _ _ (first_of_two _ _ h);
  valid_package = second_of_two _ _ (first_of_two _ _ h);
  valid_name = second_of_two _ _ h;
}

-- what reads as a label is read as that label
pub label_from_reading : (own : PackageParts) (text : List ℕ) (l : LabelParts) → ReadsAs own text l → label_of own text ≡ Some l
unfolding label_of valid_label
label_from_reading own text l r = rw (parts_written own text l r.valid r.written, is_label_from l r.valid) refl

-- what is after `//`, cut at the first colon
absolute_parts : (r t : List ℕ) (l : LabelParts) (v : Option (List ℕ × List ℕ)) → split_once 58 t ≡ v → label_of_parts r t v ≡ l
    → ((t ≡ l.package ++ 58 ∷ l.name) ⊎ ((t ≡ l.package) × (l.name ≡ last_segment l.package))) × (l.repo ≡ r)
absolute_parts r t l None e h = (inr (ap (λ (x : LabelParts). x.package) h, sym (ap (λ (x : LabelParts). x.name) h) ∙ ap (λ (x : LabelParts). last_segment x.package) h), sym (ap (λ (x : LabelParts). x.repo) h))
absolute_parts r t l (Some p) e h = (inl (cut_whole 58 t p e ∙ (ap (λ (x : LabelParts). x.package ++ 58 ∷ x.name) h)), sym (ap (λ (x : LabelParts). x.repo) h))

absolute_reads : (r t : List ℕ) (l : LabelParts) → absolute_label r t ≡ l
    → ((t ≡ l.package ++ 58 ∷ l.name) ⊎ ((t ≡ l.package) × (l.name ≡ last_segment l.package))) × (l.repo ≡ r)
unfolding absolute_label
absolute_reads r t l h = absolute_parts r t l (split_once 58 t) refl h

some_is : {A : Type 0} {x y : A} → Some x ≡ Some y → x ≡ y
some_is e = cc

-- a name in the file's package
own_parts : (own : PackageParts) (n : List ℕ) (l : LabelParts) → label_in own n ≡ l → (n ≡ l.name) × (package_of l ≡ own)
own_parts own n l e = (ap (λ (x : LabelParts). x.name) e, ap package_of (sym e))

absolute_written : (own : PackageParts) (t : List ℕ) (l : LabelParts) → absolute_label own.repo t ≡ l → IsWritten own (47 ∷ 47 ∷ t) l
absolute_written own t l e = let f = absolute_reads own.repo t l e in elim f.0 [
  | inl whole ↦ absolute (ap (λ x. 47 ∷ 47 ∷ x) whole) f.1
  | inr part ↦ short (ap (λ x. 47 ∷ 47 ∷ x) part.0) part.1 f.1
]

external_absolute : (own : PackageParts) (r t : List ℕ) (l : LabelParts) → absolute_label r t ≡ l → IsWritten own (64 ∷ (r ++ 47 ∷ 47 ∷ t)) l
external_absolute own r t l e = let f = absolute_reads r t l e in elim f.0 [
  | inl whole ↦ external (ap (λ x. 64 ∷ (r ++ 47 ∷ 47 ∷ x)) whole ∙ ap (λ (x : List ℕ). 64 ∷ (x ++ 47 ∷ 47 ∷ (l.package ++ 58 ∷ l.name))) (sym f.1))
  | inr part ↦ external_short (ap (λ x. 64 ∷ (r ++ 47 ∷ 47 ∷ x)) part.0 ∙ ap (λ (x : List ℕ). 64 ∷ (x ++ 47 ∷ 47 ∷ l.package)) (sym f.1)) part.1
]

slashes : (r : List ℕ) (b : ℕ) (rest : List ℕ) → b ≡ 47 → (t : List ℕ) → t ≡ r ++ 47 ∷ b ∷ rest → t ≡ r ++ 47 ∷ 47 ∷ rest
slashes r b rest is t e = e ∙ ap (λ x. r ++ 47 ∷ x ∷ rest) is

external_of : (own : PackageParts) (t : List ℕ) (l : LabelParts) (v : Option (List ℕ × List ℕ)) → split_once 47 t ≡ v → label_of_repository t v ≡ Some l → IsWritten own (64 ∷ t) l
external_of own t l None e h =
    let is : label_at t [] t ≡ l = some_is h in
    repository (ap (λ (x : LabelParts). 64 ∷ x.repo) is) (sym (ap (λ (x : LabelParts). x.package) is)) (sym (ap (λ (x : LabelParts). x.name) is) ∙ ap (λ (x : LabelParts). x.repo) is)
external_of own t l (Some (r, [])) e h = absurd (cc)
external_of own t l (Some (r, b ∷ rest)) e h = elim (cases_Bool (b == 47)) [
  | inl y ↦
      let is : b ≡ 47 = grind (arith, nat_tests) in
      let reads : absolute_label r rest ≡ l = some_is (sym (rw y refl) ∙ h) in
      subst (λ (x : List ℕ). IsWritten own (64 ∷ x) l) (sym (slashes r b rest is t (cut_whole 47 t _ e))) (external_absolute own r rest l reads)
  | inr o ↦ let none : None ≡ Some l = sym (rw o refl) ∙ h in absurd (cc)
]

external_written : (own : PackageParts) (t : List ℕ) (l : LabelParts) → external_label t ≡ Some l → IsWritten own (64 ∷ t) l
unfolding external_label
external_written own t l h = external_of own t l (split_once 47 t) refl h

two_slashes : (b : ℕ) (bs : List ℕ) → (b == 47 && first_is 47 bs) ≡ true → b ∷ bs ≡ 47 ∷ 47 ∷ drop 1 bs
two_slashes b [] h = absurd (false≢true (second_of_two (b == 47) false h))
two_slashes b (d ∷ rest) h =
    let f : (b == 47) ≡ true = first_of_two (b == 47) (d == 47) h in
    let s : (d == 47) ≡ true = second_of_two (b == 47) (d == 47) h in
    let first : b ≡ 47 = grind (arith, nat_tests) in
    let second : d ≡ 47 = grind (arith, nat_tests) in
    ap (λ x. x ∷ d ∷ rest) first ∙ ap (λ x. 47 ∷ x ∷ rest) second

-- what is named as parts is written in one of the forms
pub written_from_parts : (own : PackageParts) (text : List ℕ) (l : LabelParts) → parts_of own text ≡ Some l → IsWritten own text l
unfolding parts_of
written_from_parts own [] l h = let f = own_parts own [] l (some_is h) in bare_name f.0 tt f.1
written_from_parts own (b ∷ bs) l h = elim (cases_Bool (b == 64)) [
  | inl y ↦
      let is : b ≡ 64 = grind (arith, nat_tests) in
      subst (λ (x : ℕ). IsWritten own (x ∷ bs) l) (sym is) (external_written own bs l (sym (rw y refl) ∙ h))
  | inr o ↦ elim (cases_Bool (b == 47 && first_is 47 bs)) [
    | inl y ↦ subst (λ (x : List ℕ). IsWritten own x l) (sym (two_slashes b bs y)) (absolute_written own (drop 1 bs) l (some_is (sym (rw (o, y) refl) ∙ h)))
    | inr n ↦ elim (cases_Bool (b == 58)) [
      | inl y ↦
          let is : b ≡ 58 = grind (arith, nat_tests) in
          let f = own_parts own bs l (some_is (sym (rw (o, n, y) refl) ∙ h)) in
          own_name (ap (λ x. x ∷ bs) is ∙ ap (λ x. 58 ∷ x) f.0) f.1
      | inr p ↦
          let f = own_parts own (b ∷ bs) l (some_is (sym (rw (o, n, p) refl) ∙ h)) in
          bare_name f.0 (λ e. false≢true (sym o ∙ grind (arith, nat_tests))) f.1
    ]
  ]
]

valid_is : (m l : LabelParts) → valid_label m ≡ Some l → (m ≡ l) × (is_label m ≡ true)
unfolding valid_label
valid_is m l h = elim (cases_Bool (is_label m)) [
  | inl y ↦ (some_is (sym (rw y refl) ∙ h), y)
  | inr n ↦ let none : None ≡ Some l = sym (rw n refl) ∙ h in absurd (cc)
]

both : (own : PackageParts) (text : List ℕ) (l : LabelParts) (v : Option LabelParts) → parts_of own text ≡ v → option_and_then valid_label v ≡ Some l → ReadsAs own text l
both own text l None e h = absurd (cc)
both own text l (Some m) e h =
    let f = valid_is m l h in
    record {
      written = written_from_parts own text l (e ∙ ap Some f.0);
      valid = valid_from l (sym (ap is_label f.0) ∙ f.1);
    }

-- what is read as a label reads as that label
pub reading_from_label : (own : PackageParts) (text : List ℕ) (l : LabelParts) → label_of own text ≡ Some l → ReadsAs own text l
unfolding label_of
reading_from_label own text l h = both own text l (parts_of own text) refl h

pub one_label : (own : PackageParts) (text : List ℕ) (l m : LabelParts) → ReadsAs own text l → ReadsAs own text m → l ≡ m
one_label own text l m a b = some_is (sym (label_from_reading own text l a) ∙ label_from_reading own text m b)

full_form_written : (own : PackageParts) → own.repo ≡ [] → (r p n : List ℕ) → IsWritten own (full_form (label_at r p n)) (label_at r p n)
unfolding full_form
full_form_written own main [] p n = absolute refl (sym main)
full_form_written own main (b ∷ bs) p n = external refl

-- a label's full form reads as the label in every file of the main repository
pub full_form_reads : (own : PackageParts) (l : LabelParts) → own.repo ≡ [] → IsLabel l → ReadsAs own (full_form l) l
full_form_reads own l main h = record { written = full_form_written own main l.repo l.package l.name; valid = h }

pub one_full_form : (l m : LabelParts) → IsLabel l → IsLabel m → full_form l ≡ full_form m → l ≡ m
one_full_form l m hl hm e =
    let main : PackageParts = record { repo = []; «package» = [] } in
    one_label main (full_form l) l m (full_form_reads main l refl hl) (subst (λ (t : List ℕ). ReadsAs main t m) (sym e) (full_form_reads main m refl hm))
