-- What is the same where lists have the same paths but for some that are noted.
use Rattle.std.proofs.Common.{◌≡◌, ◌∙◌, ℕ, ◌++◌, ◌||◌, ◌&&◌, Bool, true, false, not, List, [], ◌∷◌, Option, Some, None, codes, is_some, nat_eq, inl, inr, refl, sym, ap, append_assoc}
use Rattle.std.specs.Prelude.{bytes_eq, if◌then◌else◌}
use Rattle.std.specs.List.{ends_with, filter, filter_map, list_any}
use Rattle.std.specs.Option.{option_map}
use Rattle.std.specs.Cmp.Lexicographic.{bytes_decides}
use Rattle.std.proofs.Math.Path.{fun_ext}
use Rattle.std.proofs.lemmas.Bool.{cases_Bool}
use Rattle.std.proofs.lemmas.Bool.Decides.{Decides-eqb}
use Rattle.std.proofs.lemmas.Slice.Eq.{ends_is}
use Rattle.bq_label.specs.declared.packages.BuildFile.{BuildFile}
use Rattle.bq_label.specs.declared.workspace.File.{File}
use Rattle.bq_label.specs.Label.{PackageParts, last_segment}
use Rattle.bq_label.specs.Order.{in_order}
use Rattle.bq_label.specs.Packages.{build_file, build_files, is_build_file, package_cmp, package_of_file, packages_of, split_repository}
use Rattle.bq_label.specs.Paths.{is_slash}
use Rattle.bq_label.specs.Workspace.{paths_of}
use Rattle.bq_label_glob.specs.Names.{directory, is_beneath, is_owned, name_in, names_in}
use Rattle.bq_load_changes.specs.Paths.{AreSameBut, is_touched, may_be_module}

-- ---- tests

both_false : (a b : Bool) → b ≡ false → (a && b) ≡ false
both_false true b h = h
both_false false b h = refl

first_true : (a b : Bool) → a ≡ true → (a || b) ≡ true
first_true true b h = refl
first_true false b h = absurd (cc)

second_true : (a b : Bool) → b ≡ true → (a || b) ≡ true
second_true true b h = refl
second_true false b h = h

not_so : (b : Bool) → (b ≡ true → ⊥) → b ≡ false
not_so true h = absurd (h refl)
not_so false h = refl

-- ---- lists

-- a test passes an element if it passes one of those that it keeps
any_kept : {A : Type 0} (test : A → Bool) (xs : List A) → list_any test xs ≡ list_any test (filter test xs)
any_kept test [] = refl
any_kept test (x ∷ xs) = elim (cases_Bool (test x)) [
  | inl y ↦ rw y (rw y refl)
  | inr n ↦ rw n (any_kept test xs)
]

-- of the elements those alone count that give something
given_by : {A B : Type 0} (f : A → Option B) (x : A) (xs : List A) → filter_map f xs ≡ filter_map f (filter (λ y. is_some (f y)) xs) → (o : Option B) → f x ≡ o → filter_map f (x ∷ xs) ≡ filter_map f (filter (λ y. is_some (f y)) (x ∷ xs))
given_by f x xs h None e = rw e h
given_by f x xs h (Some y) e = rw e (rw e (ap (λ (ys : List _). y ∷ ys) h))

given_kept : {A B : Type 0} (f : A → Option B) (xs : List A) → filter_map f xs ≡ filter_map f (filter (λ x. is_some (f x)) xs)
given_kept f [] = refl
given_kept f (x ∷ xs) = given_by f x xs (given_kept f xs) (f x) refl

-- ---- paths of modules

ended : (path front rest : List ℕ) → path ≡ front ++ rest → ends_with nat_eq path rest ≡ true
ended path front rest e = (ends_is Decides-eqb path rest (ends_with nat_eq path rest) refl).1 front e

build_may_be : (path front : List ℕ) → path ≡ front ++ codes "BUILD" → may_be_module path ≡ true
unfolding may_be_module
build_may_be path front e =
    second_true (ends_with nat_eq path (codes ".bzl")) (ends_with nat_eq path (codes "BUILD") || ends_with nat_eq path (codes "BUILD.bazel"))
    (first_true (ends_with nat_eq path (codes "BUILD")) (ends_with nat_eq path (codes "BUILD.bazel")) (ended path front (codes "BUILD") e))

preferred_may_be : (path front : List ℕ) → path ≡ front ++ codes "BUILD.bazel" → may_be_module path ≡ true
unfolding may_be_module
preferred_may_be path front e =
    second_true (ends_with nat_eq path (codes ".bzl")) (ends_with nat_eq path (codes "BUILD") || ends_with nat_eq path (codes "BUILD.bazel"))
    (second_true (ends_with nat_eq path (codes "BUILD")) (ends_with nat_eq path (codes "BUILD.bazel")) (ended path front (codes "BUILD.bazel") e))

-- a path ends with its last segment
last_ends : (path : List ℕ) → (front : List ℕ) × (path ≡ front ++ last_segment path)
unfolding last_segment
last_ends [] = ([], refl)
last_ends (b ∷ bs) = elim (cases_Bool (is_slash b || list_any is_slash bs)) [
  | inl y ↦ let r = last_ends bs in (b ∷ r.0, rw y (ap (λ (t : List ℕ). b ∷ t) r.1))
  | inr n ↦ ([], rw n refl)
]

ends_so : (path name : List ℕ) → bytes_eq (last_segment path) name ≡ true → (front : List ℕ) × (path ≡ front ++ name)
ends_so path name h =
    let r = last_ends path in
    (r.0, r.1 ∙ ap (λ (t : List ℕ). r.0 ++ t) ((bytes_decides (last_segment path) name).0 h))

no_module : (path : List ℕ) → may_be_module path ≡ false → may_be_module path ≡ true → ⊥
no_module path plain is = let two : true ≡ false = sym is ∙ plain in absurd (cc)

not_build : (path : List ℕ) → may_be_module path ≡ false → bytes_eq (last_segment path) (codes "BUILD") ≡ false
not_build path plain = not_so (bytes_eq (last_segment path) (codes "BUILD")) (λ h. let r = ends_so path (codes "BUILD") h in no_module path plain (build_may_be path r.0 r.1))

not_preferred : (path : List ℕ) → may_be_module path ≡ false → bytes_eq (last_segment path) (codes "BUILD.bazel") ≡ false
not_preferred path plain = not_so (bytes_eq (last_segment path) (codes "BUILD.bazel")) (λ h. let r = ends_so path (codes "BUILD.bazel") h in no_module path plain (preferred_may_be path r.0 r.1))

-- a path that no module may have isn't that of a preferred BUILD file beside another one
not_beside : (path other : List ℕ) → bytes_eq (last_segment path) (codes "BUILD") ≡ true → may_be_module other ≡ false → bytes_eq (path ++ codes ".bazel") other ≡ false
not_beside path other h plain = not_so (bytes_eq (path ++ codes ".bazel") other) (λ same.
    let r = ends_so path (codes "BUILD") h in
    let whole : path ++ codes ".bazel" ≡ r.0 ++ codes "BUILD.bazel" = ap (λ (t : List ℕ). t ++ codes ".bazel") r.1 ∙ append_assoc r.0 (codes "BUILD") (codes ".bazel") in
    no_module other plain (preferred_may_be other r.0 (sym ((bytes_decides (path ++ codes ".bazel") other).0 same) ∙ whole)))

-- ---- what is the same

module _ (packages touched : List BuildFile) (ps qs : List (List ℕ)) (s : AreSameBut packages touched ps qs) where
  -- whether there is a path of a module that passes a test
  pub same_any : (test : List ℕ → Bool) → ((path : List ℕ) → may_be_module path ≡ false → test path ≡ false) → list_any test ps ≡ list_any test qs
  same_any test h = any_kept test ps ∙ (ap (list_any test) (s.same test (λ path n. h path n.plain)) ∙ sym (any_kept test qs))

  -- the names of the files of a package that is left untouched
  not_named : (p : PackageParts) (path : List ℕ) → is_owned packages p path ≡ false → is_some (name_in packages p path) ≡ false
  unfolding name_in
  not_named p path e = rw (both_false (is_beneath (directory p) path) (is_owned packages p path) e) refl

  pub same_names : (p : PackageParts) → is_touched touched p ≡ false → names_in packages p ps ≡ names_in packages p qs
  unfolding names_in
  same_names p h =
      let kept = s.same (λ t. is_some (name_in packages p t)) (λ path n. not_named p path (n.owned p h)) in
      given_kept (λ t. name_in packages p t) ps ∙ (ap (filter_map (λ t. name_in packages p t)) kept ∙ sym (given_kept (λ t. name_in packages p t) qs))

  -- the packages
  same_build : (path : List ℕ) → is_build_file ps path ≡ is_build_file qs path
  unfolding is_build_file
  same_build path = elim (cases_Bool (bytes_eq (last_segment path) (codes "BUILD"))) [
    | inl y ↦
        ap (λ (b : Bool). bytes_eq (last_segment path) (codes "BUILD.bazel") || (bytes_eq (last_segment path) (codes "BUILD") && not b))
        (same_any (bytes_eq (path ++ codes ".bazel")) (λ other plain. not_beside path other y plain))
    | inr n ↦ rw n refl
  ]

  same_file : (path : List ℕ) → package_of_file ps path ≡ package_of_file qs path
  unfolding package_of_file
  same_file path = ap (λ (b : Bool). if b then option_map (build_file path) (split_repository path) else None) (same_build path)

  no_build : (path : List ℕ) → may_be_module path ≡ false → is_build_file qs path ≡ false
  unfolding is_build_file
  no_build path plain = rw (not_preferred path plain, not_build path plain) refl

  no_package : (path : List ℕ) → may_be_module path ≡ false → is_some (package_of_file qs path) ≡ false
  unfolding package_of_file
  no_package path plain = rw (no_build path plain) refl

  same_builds : build_files ps ps ≡ build_files qs qs
  same_builds =
      let files : package_of_file ps ≡ package_of_file qs = fun_ext same_file in
      let kept = s.same (λ path. is_some (package_of_file qs path)) (λ path n. no_package path n.plain) in
      ap (λ (f : List ℕ → Option BuildFile). filter_map f ps) files
      ∙ (given_kept (package_of_file qs) ps ∙ (ap (filter_map (package_of_file qs)) kept ∙ sym (given_kept (package_of_file qs) qs)))

pub same_packages : (packages touched : List BuildFile) (before after : List File) → AreSameBut packages touched (paths_of before) (paths_of after) → packages_of before ≡ packages_of after
unfolding packages_of
same_packages packages touched before after s = ap (in_order package_cmp) (same_builds packages touched (paths_of before) (paths_of after) s)
