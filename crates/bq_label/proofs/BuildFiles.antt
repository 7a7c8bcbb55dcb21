-- A BUILD file names its package, and no two files name one.
use Rattle.std.proofs.Common.{◌≡◌, ◌+◌, ◌<◌, ◌++◌, ◌&&◌, ◌||◌, ◌⊎◌, ℕ, zero, suc, Bool, true, false, not, List, [], ◌∷◌, Option, Some, None, length, take, get_or, codes, refl, sym, ap, subst, ◌∙◌, arith, append_assoc, inl, inr}
use Rattle.std.proofs.lemmas.Bool.{cases_Bool, false≢true}
use Rattle.std.specs.Option.{option_map, is_some}
use Rattle.std.specs.Str.{bytes_eq}
use Rattle.std.specs.List.{list_any, list_all, cons_option, AllByRecursion, IsDistinct, Contains}
use Rattle.std.specs.List.Sorted.{IsStrictlySortedBy, IsPermutation, IsSorted, IsNonDecreasingBy, IsPartitionPoint}
use Rattle.std.proofs.lemmas.List.{map-append, take_more}
use Rattle.std.proofs.lemmas.List.Elements.{filter_map-append}
use Rattle.std.proofs.lemmas.List.Sorted.{Contains-permutation, IsPermutation-sym}
use Rattle.std.specs.Cmp.{IsTotalOrder}
use Rattle.std.specs.Cmp.Lexicographic.{slice_cmp, on_texts}
use Rattle.std.specs.Ordering.{nat_cmp, ordering_then, eq_by_cmp, is_eq, ordering_index}
use Rattle.std.specs.declared.cmp.Ordering.{Ordering}
use Rattle.std.specs.declared.cmp.Ordering.TheVariants.{Less, Equal, Greater}
use Rattle.std.proofs.lemmas.Cmp.{then_total, on_total}
use Rattle.std.proofs.lemmas.Map.Text.{is_eq-slice_cmp}
use Rattle.std.proofs.lemmas.Map.Keys.{sorted_head, sorted_tail}
use Rattle.bq_label.specs.declared.workspace.File.{File}
use Rattle.bq_label.specs.declared.packages.BuildFile.{BuildFile}
use Rattle.bq_label.specs.Paths.{is_path}
use Rattle.bq_label.specs.Label.{PackageParts, package_at, IsPackage, last_segment}
use Rattle.bq_label.specs.Workspace.{paths_of, path_cmp, file_at, are_paths, are_distinct, are_apart, IsWorkspace}
use Rattle.bq_label.specs.Packages.{repository_root, split_repository, directory_of, joined, is_build_file, build_file, package_of_file, build_files, id_cmp, package_cmp, is_package_id, package_named, packages_of, label_path, build_path, IsBuildPath, IsPackageOf}
use Rattle.bq_label.specs.Order.{in_order}
use Rattle.bq_label.proofs.Readings.{first_of_two, second_of_two}
use Rattle.bq_label.proofs.Above.{same_bytes, equal_bytes}
use Rattle.bq_label.proofs.Segments.{joins}
use Rattle.bq_label.proofs.Repositories.{in_repository}
use Rattle.bq_label.proofs.Orders.{strict_from_sort, in_order_is, in_order_moves, in_order_ascends, at_head, in_tail, head_or_tail}
use Rattle.bq_label.proofs.Searches.{find_here, find_nowhere}
use Rattle.bq_label.proofs.Workspaces.{any_at_path}

-- what is known of the package that the file at a path names
pub record Named (paths : List (List ℕ)) (path : List ℕ) (b : BuildFile) : Type 0 where
  pub path_is : b.path ≡ path
  pub won : is_build_file paths path ≡ true
  pub whole : path ≡ repository_root b.id.repo ++ joined b.id.package (last_segment path)
  pub valid : IsPackage b.id
  pub place : split_repository path ≡ Some (b.id.repo, joined b.id.package (last_segment path))

some_same : {A : Type 0} {x y : A} → Some x ≡ Some y → x ≡ y
some_same e = cc

named_at : (paths : List (List ℕ)) (path : List ℕ) (b : BuildFile) (v : Option (List ℕ × List ℕ)) → is_path path ≡ true → is_build_file paths path ≡ true → split_repository path ≡ v → option_map (build_file path) v ≡ Some b → Named paths path b
named_at paths path b None p w e h = absurd (cc)
named_at paths path b (Some q) p w e h =
    let is : build_file path q ≡ b = some_same h in
    let known = in_repository path q.0 q.1 e in
    let join = joins q.1 (known.valid_rest p) in
    let named : Named paths path (build_file path q) = record {
      path_is = refl;
      won = w;
      whole = known.whole ∙ ap (λ (t : List ℕ). repository_root q.0 ++ t) (join.whole ∙ ap (λ (t : List ℕ). joined (directory_of q.1) t) (sym known.last));
      valid = record { valid_repo = known.valid; valid_package = join.valid };
      place = e ∙ ap (λ (t : List ℕ). Some (q.0, t)) (join.whole ∙ ap (λ (t : List ℕ). joined (directory_of q.1) t) (sym known.last));
    } in
    subst (λ (x : BuildFile). Named paths path x) is named

pub named : (paths : List (List ℕ)) (path : List ℕ) (b : BuildFile) → is_path path ≡ true → package_of_file paths path ≡ Some b → Named paths path b
unfolding package_of_file
named paths path b p h = elim (cases_Bool (is_build_file paths path)) [
  | inl y ↦ named_at paths path b (split_repository path) p y refl (sym (rw y refl) ∙ h)
  | inr n ↦ let none : None ≡ Some b = sym (rw n refl) ∙ h in absurd (cc)
]

either : (a b : Bool) → (a || b) ≡ true → (a ≡ true) ⊎ (b ≡ true)
either true b h = inl refl
either false b h = inr h

not_true : (b : Bool) → not b ≡ true → b ≡ false
not_true true h = absurd (false≢true h)
not_true false h = refl

-- the two names of a BUILD file that is_build_file
pub winner : (paths : List (List ℕ)) (path : List ℕ) → is_build_file paths path ≡ true → (last_segment path ≡ codes "BUILD.bazel") ⊎ ((last_segment path ≡ codes "BUILD") × (list_any (bytes_eq (path ++ codes ".bazel")) paths ≡ false))
unfolding is_build_file
winner paths path h =
    let first : Bool = bytes_eq (last_segment path) (codes "BUILD.bazel") in
    let plain : Bool = bytes_eq (last_segment path) (codes "BUILD") in
    let other : Bool = not (list_any (bytes_eq (path ++ codes ".bazel")) paths) in
    elim (either first (plain && other) h) [
      | inl y ↦ inl (same_bytes (last_segment path) (codes "BUILD.bazel") y)
      | inr z ↦ inr (same_bytes (last_segment path) (codes "BUILD") (first_of_two plain other z), not_true (list_any (bytes_eq (path ++ codes ".bazel")) paths) (second_of_two plain other z))
    ]

-- `BUILD` with `.bazel` after it
pub longer_name : (d : List ℕ) → joined d (codes "BUILD") ++ codes ".bazel" ≡ joined d (codes "BUILD.bazel")
longer_name [] = refl
longer_name (b ∷ bs) = append_assoc (b ∷ bs) (47 ∷ codes "BUILD") (codes ".bazel")

abbrev place : PackageParts → List ℕ → List ℕ
place p name = repository_root p.repo ++ joined p.package name

longer_path : (p : PackageParts) → place p (codes "BUILD") ++ codes ".bazel" ≡ place p (codes "BUILD.bazel")
longer_path p = append_assoc (repository_root p.repo) (joined p.package (codes "BUILD")) (codes ".bazel") ∙ ap (λ (t : List ℕ). repository_root p.repo ++ t) (longer_name p.package)

there : (paths : List (List ℕ)) (path : List ℕ) → list_any (bytes_eq path) paths ≡ true → (other : List ℕ) → other ≡ path → list_any (bytes_eq other) paths ≡ true
there paths path h other e = subst (λ (t : List ℕ). list_any (bytes_eq t) paths ≡ true) (sym e) h

-- two paths that name one package are one
pub one_build_file : (paths : List (List ℕ)) (f g : List ℕ) (b c : BuildFile) → Named paths f b → Named paths g c → list_any (bytes_eq f) paths ≡ true → list_any (bytes_eq g) paths ≡ true → b.id ≡ c.id → f ≡ g
one_build_file paths f g b c nf ng hf hg e =
    let ef : (n : List ℕ) → last_segment f ≡ n → f ≡ place c.id n = λ n i. nf.whole ∙ (ap (λ (p : PackageParts). place p (last_segment f)) e ∙ ap (place c.id) i) in
    let eg : (n : List ℕ) → last_segment g ≡ n → g ≡ place c.id n = λ n i. ng.whole ∙ ap (place c.id) i in
    elim (winner paths f nf.won) [
      | inl bf ↦ elim (winner paths g ng.won) [
        | inl bg ↦ ef _ bf ∙ sym (eg _ bg)
        | inr bg ↦
            let longer : g ++ codes ".bazel" ≡ f = ap (λ (t : List ℕ). t ++ codes ".bazel") (eg _ bg.0) ∙ (longer_path c.id ∙ sym (ef _ bf)) in
            absurd (false≢true (sym bg.1 ∙ there paths f hf (g ++ codes ".bazel") longer))
      ]
      | inr bf ↦ elim (winner paths g ng.won) [
        | inl bg ↦
            let longer : f ++ codes ".bazel" ≡ g = ap (λ (t : List ℕ). t ++ codes ".bazel") (ef _ bf.0) ∙ (longer_path c.id ∙ sym (eg _ bg)) in
            absurd (false≢true (sym bf.1 ∙ there paths g hg (f ++ codes ".bazel") longer))
        | inr bg ↦ ef _ bf.0 ∙ sym (eg _ bg.0)
      ]
    ]

pub by_id : IsTotalOrder id_cmp
by_id = then_total (on_texts (λ (p : PackageParts). p.repo)) (on_texts (λ (p : PackageParts). p.package))

pub by_package : IsTotalOrder package_cmp
by_package = on_total (λ (b : BuildFile). b.id) by_id

then_equal : (r s : Ordering) → is_eq (ordering_then r s) ≡ (is_eq r && is_eq s)
then_equal Less s = refl
then_equal Equal s = refl
then_equal Greater s = refl

-- the test of a package's name
pub same_id_test : (p q : PackageParts) → (bytes_eq p.repo q.repo && bytes_eq p.package q.package) ≡ is_eq (id_cmp p q)
same_id_test p q = sym (then_equal (slice_cmp nat_cmp p.repo q.repo) (slice_cmp nat_cmp p.package q.package) ∙ rw (is_eq-slice_cmp p.repo q.repo, is_eq-slice_cmp p.package q.package) refl)

pub same_id : (p q : PackageParts) → is_eq (id_cmp p q) ≡ true → p ≡ q
same_id p q h =
    let both : (bytes_eq p.repo q.repo && bytes_eq p.package q.package) ≡ true = same_id_test p q ∙ h in
    let repo : p.repo ≡ q.repo = same_bytes p.repo q.repo (first_of_two (bytes_eq p.repo q.repo) (bytes_eq p.package q.package) both) in
    let path : p.package ≡ q.package = same_bytes p.package q.package (second_of_two (bytes_eq p.repo q.repo) (bytes_eq p.package q.package) both) in
    ap (λ (r : List ℕ). package_at r p.package) repo ∙ ap (λ (t : List ℕ). package_at q.repo t) path

-- ---- no two of the packages have one name

-- each path is valid, and among the paths
abbrev pub AreAmong : List (List ℕ) → List File → Type 0
AreAmong paths fs = AllByRecursion (λ (g : File). (is_path g.path ≡ true) × (list_any (bytes_eq g.path) paths ≡ true)) fs

apart_at : (paths : List (List ℕ)) (f g : File) (b : BuildFile) → Named paths f.path b → list_any (bytes_eq f.path) paths ≡ true → path_cmp f g ≡ Less → is_path g.path ≡ true → list_any (bytes_eq g.path) paths ≡ true
    → (rest : List BuildFile) → AllByRecursion (λ c. eq_by_cmp package_cmp b c ≡ false) rest → (v : Option BuildFile) → package_of_file paths g.path ≡ v → AllByRecursion (λ c. eq_by_cmp package_cmp b c ≡ false) (cons_option v rest)
apart_at paths f g b n hf l pg hg rest a None e = a
apart_at paths f g b n hf l pg hg rest a (Some c) e = (
  elim (cases_Bool (eq_by_cmp package_cmp b c)) [
    | inl y ↦
        let same : f.path ≡ g.path = one_build_file paths f.path g.path b c n (named paths g.path c pg e) hf hg (same_id b.id c.id y) in
        let equal : bytes_eq f.path g.path ≡ true = equal_bytes f.path g.path same in
        let other : bytes_eq f.path g.path ≡ false = sym (is_eq-slice_cmp f.path g.path) ∙ ap is_eq l in
        absurd (false≢true (sym other ∙ equal))
    | inr o ↦ o
  ],
  a,
)

apart_from : (paths : List (List ℕ)) (f : File) (b : BuildFile) → Named paths f.path b → list_any (bytes_eq f.path) paths ≡ true → (gs : List File)
    → AllByRecursion (λ (g : File). path_cmp f g ≡ Less) gs → AreAmong paths gs → AllByRecursion (λ c. eq_by_cmp package_cmp b c ≡ false) (build_files paths (paths_of gs))
apart_from paths f b n hf [] l a = tt
apart_from paths f b n hf (g ∷ gs) l a = apart_at paths f g b n hf l.0 a.0.0 a.0.1 (build_files paths (paths_of gs)) (apart_from paths f b n hf gs l.1 a.1) (package_of_file paths g.path) refl

distinct_at : (paths : List (List ℕ)) (f : File) (fs : List File) → is_path f.path ≡ true → list_any (bytes_eq f.path) paths ≡ true → AllByRecursion (λ (g : File). path_cmp f g ≡ Less) fs → AreAmong paths fs
    → IsDistinct (eq_by_cmp package_cmp) (build_files paths (paths_of fs)) → (v : Option BuildFile) → package_of_file paths f.path ≡ v → IsDistinct (eq_by_cmp package_cmp) (cons_option v (build_files paths (paths_of fs)))
unfolding IsDistinct
distinct_at paths f fs pf hf l a d None e = d
distinct_at paths f fs pf hf l a d (Some b) e = (apart_from paths f b (named paths f.path b pf e) hf fs l a, d)

distinct_by : (paths : List (List ℕ)) (fs : List File) → IsStrictlySortedBy path_cmp fs → AreAmong paths fs → IsDistinct (eq_by_cmp package_cmp) (build_files paths (paths_of fs))
unfolding IsDistinct
distinct_by paths [] s a = tt
distinct_by paths (f ∷ fs) s a = distinct_at paths f fs a.0.0 a.0.1 (sorted_head path_cmp f fs s) a.1 (distinct_by paths fs (sorted_tail path_cmp f fs s) a.1) (package_of_file paths f.path) refl

among : (paths more : List (List ℕ)) (fs : List File) → ((p : List ℕ) → list_any (bytes_eq p) (paths_of fs) ≡ true → list_any (bytes_eq p) paths ≡ true) → list_all is_path (paths_of fs) ≡ true → AreAmong paths fs
among paths more [] up h = tt
among paths more (f ∷ fs) up h =
    let here : list_any (bytes_eq f.path) (paths_of (f ∷ fs)) ≡ true = rw (equal_bytes f.path f.path refl) refl in (
      (first_of_two (is_path f.path) (list_all is_path (paths_of fs)) h, up f.path here),
      among paths more fs (λ p i. up p (later p f.path (paths_of fs) i)) (second_of_two (is_path f.path) (list_all is_path (paths_of fs)) h),
    )
  where
    later : (p q : List ℕ) (ps : List (List ℕ)) → list_any (bytes_eq p) ps ≡ true → (bytes_eq p q || list_any (bytes_eq p) ps) ≡ true
    later p q ps i = elim (cases_Bool (bytes_eq p q)) [ inl y ↦ rw y refl | inr n ↦ rw (n, i) refl ]

valid_paths : (files : List File) → IsWorkspace files → list_all is_path (paths_of files) ≡ true
unfolding are_paths
valid_paths files w =
    let ps : List (List ℕ) = paths_of files in
    first_of_two (list_all is_path ps) (are_distinct ps) (first_of_two (list_all is_path ps && are_distinct ps) (are_apart ps) w.valid)

pub distinct_build_files : (files : List File) → IsWorkspace files → IsDistinct (eq_by_cmp package_cmp) (build_files (paths_of files) (paths_of files))
distinct_build_files files w = distinct_by (paths_of files) files w.ascending (among (paths_of files) [] files (λ p i. i) (valid_paths files w))

valid_in : (fs : List File) (k : ℕ) (d : File) → list_all is_path (paths_of fs) ≡ true → k < length fs → is_path ((get_or fs k d).path) ≡ true
valid_in [] k d h l = absurd (omega arith)
valid_in (f ∷ fs) zero d h l = first_of_two (is_path f.path) (list_all is_path (paths_of fs)) h
valid_in (f ∷ fs) (suc k) d h l = valid_in fs k d (second_of_two (is_path f.path) (list_all is_path (paths_of fs)) h) (omega arith)

pub valid_path : (files : List File) (k : ℕ) (d : File) → IsWorkspace files → k < length files → is_path ((get_or files k d).path) ≡ true
valid_path files k d w l = valid_in files k d (valid_paths files w) l

-- the package of a valid path is valid
pub repository_package : (path r rest : List ℕ) → is_path path ≡ true → split_repository path ≡ Some (r, rest) → IsPackage (package_at r (directory_of rest))
repository_package path r rest p e =
    let known = in_repository path r rest e in
    record { valid_repo = known.valid; valid_package = (joins rest (known.valid_rest p)).valid }

-- the packages of a workspace, sorted
pub packages_ascend : (files : List File) (ys : List BuildFile) → IsWorkspace files → IsPermutation (build_files (paths_of files) (paths_of files)) ys → IsSorted package_cmp ys → IsStrictlySortedBy package_cmp ys
packages_ascend files ys w p s = strict_from_sort package_cmp by_package (build_files (paths_of files) (paths_of files)) ys p s (distinct_build_files files w)

pub packages_are : (files : List File) (ys : List BuildFile) → IsWorkspace files → IsPermutation (build_files (paths_of files) (paths_of files)) ys → IsSorted package_cmp ys → ys ≡ packages_of files
unfolding packages_of
packages_are files ys w p s = sym (in_order_is package_cmp by_package (build_files (paths_of files) (paths_of files)) ys p (packages_ascend files ys w p s))

-- one file further
pub one_more : (paths : List (List ℕ)) (files : List File) (k : ℕ) (d : File) (done : List BuildFile) → k < length files → done ≡ build_files paths (paths_of (take k files)) → (v : Option BuildFile) → v ≡ package_of_file paths ((get_or files k d).path) → done ++ cons_option v [] ≡ build_files paths (paths_of (take (k + 1) files))
one_more paths files k d done l e v h =
    let before : List (List ℕ) = paths_of (take k files) in
    let next : List ℕ = (get_or files k d).path in
    let more : paths_of (take (k + 1) files) ≡ before ++ next ∷ [] = ap (λ (fs : List File). paths_of fs) (take_more files k d l) ∙ map-append (λ (f : File). f.path) (take k files) (get_or files k d ∷ []) in
    ap (λ (t : List BuildFile). t ++ cons_option v []) e ∙ (ap (λ (u : Option BuildFile). build_files paths before ++ cons_option u []) h ∙ (sym (filter_map-append (package_of_file paths) before (next ∷ [])) ∙ ap (λ (ps : List (List ℕ)). build_files paths ps) (sym more)))

nil_right : {X : Type 0} (xs : List X) → xs ++ [] ≡ xs
nil_right [] = refl
nil_right (x ∷ xs) = ap (λ t. x ∷ t) (nil_right xs)

-- one file further, which names no package
pub none_more : (paths : List (List ℕ)) (files : List File) (k : ℕ) (d : File) (done : List BuildFile) → k < length files → done ≡ build_files paths (paths_of (take k files)) → None ≡ package_of_file paths ((get_or files k d).path) → done ≡ build_files paths (paths_of (take (k + 1) files))
none_more paths files k d done l e h = sym (nil_right done) ∙ one_more paths files k d done l e None h

-- ---- the package of a name

pub package_here : (packages : List BuildFile) (repo path : List ℕ) → IsStrictlySortedBy package_cmp packages → (i : ℕ) (d : BuildFile) → i < length packages → id_cmp ((get_or packages i d).id) (package_at repo path) ≡ Equal → package_named packages (package_at repo path) ≡ Some (get_or packages i d)
unfolding package_named
package_here packages repo path s i d l e = find_here (λ (b : BuildFile). b.id) by_id (is_package_id repo path) (package_at repo path) (λ b. same_id_test b.id (package_at repo path)) packages s i d l e

pub package_nowhere : (packages : List BuildFile) (repo path : List ℕ) → IsStrictlySortedBy package_cmp packages → (i : ℕ) → (IsNonDecreasingBy (λ (b : BuildFile). ordering_index (id_cmp b.id (package_at repo path))) packages → IsPartitionPoint (λ (b : BuildFile). id_cmp b.id (package_at repo path) ≡ Less) (λ (b : BuildFile). id_cmp b.id (package_at repo path) ≡ Greater) packages i) → package_named packages (package_at repo path) ≡ None
unfolding package_named
package_nowhere packages repo path s i p = find_nowhere (λ (b : BuildFile). b.id) by_id (is_package_id repo path) (package_at repo path) (λ b. same_id_test b.id (package_at repo path)) packages s i p

pub wins_preferred : (paths : List (List ℕ)) (path : List ℕ) → bytes_eq (last_segment path) (codes "BUILD.bazel") ≡ true → is_build_file paths path ≡ true
unfolding is_build_file
wins_preferred paths path h = rw h refl

pub wins_not : (paths : List (List ℕ)) (path : List ℕ) → bytes_eq (last_segment path) (codes "BUILD.bazel") ≡ false → bytes_eq (last_segment path) (codes "BUILD") ≡ false → is_build_file paths path ≡ false
unfolding is_build_file
wins_not paths path h k = rw (h, k) refl

pub wins_plain : (files : List File) (path : List ℕ) → bytes_eq (last_segment path) (codes "BUILD.bazel") ≡ false → bytes_eq (last_segment path) (codes "BUILD") ≡ true → is_build_file (paths_of files) path ≡ not (is_some (file_at files (path ++ codes ".bazel")))
unfolding is_build_file
wins_plain files path h k = rw (h, k) (ap not (any_at_path files (path ++ codes ".bazel")))

pub none_is_not_some : (b s : Bool) → s ≡ not b → b ≡ not s
none_is_not_some true s h = sym (ap not h)
none_is_not_some false s h = sym (ap not h)

-- ---- the packages in words

any_known : (paths ps : List (List ℕ)) (b : BuildFile) → Contains (build_files paths ps) b → (p : List ℕ) × (Contains ps p) × (package_of_file paths p ≡ Some b)
any_known paths [] b c = absurd (omega arith)
any_known paths (p ∷ ps) b c = known_by (package_of_file paths p) refl c (λ d. any_known paths ps b d)
  where
    known_by : (v : Option BuildFile) → package_of_file paths p ≡ v → Contains (cons_option v (build_files paths ps)) b → (Contains (build_files paths ps) b → (q : List ℕ) × (Contains ps q) × (package_of_file paths q ≡ Some b)) → (q : List ℕ) × (Contains (p ∷ ps) q) × (package_of_file paths q ≡ Some b)
    known_by None e c ih = let r = ih c in (r.0, in_tail p ps r.0 r.1, r.2)
    known_by (Some a) e c ih = elim (head_or_tail a (build_files paths ps) b c) [
      | inl is ↦ (p, at_head p ps, e ∙ ap Some is)
      | inr d ↦ let r = ih d in (r.0, in_tail p ps r.0 r.1, r.2)
    ]

contained_valid : (ps : List (List ℕ)) (p : List ℕ) → list_all is_path ps ≡ true → Contains ps p → is_path p ≡ true
contained_valid [] p h c = absurd (omega arith)
contained_valid (q ∷ ps) p h c = elim (head_or_tail q ps p c) [
  | inl is ↦ sym (ap is_path is) ∙ first_of_two (is_path q) (list_all is_path ps) h
  | inr d ↦ contained_valid ps p (second_of_two (is_path q) (list_all is_path ps) h) d
]

no_file_from : (files : List File) (path : List ℕ) → list_any (bytes_eq path) (paths_of files) ≡ false → file_at files path ≡ None
no_file_from files path h = none_from (file_at files path) (sym (any_at_path files path) ∙ h)
  where
    none_from : (v : Option File) → is_some v ≡ false → v ≡ None
    none_from None e = refl
    none_from (Some f) e = absurd (false≢true (sym e))

path_place : (p : PackageParts) (name : List ℕ) → place p name ≡ build_path p name
unfolding label_path
path_place p name = refl

build_words : (files : List File) (path : List ℕ) (b : BuildFile) → Named (paths_of files) path b → IsBuildPath files b.id path
build_words files path b n = elim (winner (paths_of files) path n.won) [
  | inl preferred ↦ inl (n.whole ∙ (ap (place b.id) preferred ∙ path_place b.id (codes "BUILD.bazel")))
  | inr plain ↦
      let here : path ≡ place b.id (codes "BUILD") = n.whole ∙ ap (place b.id) plain.0 in
      let longer : path ++ codes ".bazel" ≡ build_path b.id (codes "BUILD.bazel") = ap (λ (t : List ℕ). t ++ codes ".bazel") here ∙ (longer_path b.id ∙ path_place b.id (codes "BUILD.bazel")) in
      inr (here ∙ path_place b.id (codes "BUILD"), no_file_from files (build_path b.id (codes "BUILD.bazel")) (sym (ap (λ (t : List ℕ). list_any (bytes_eq t) (paths_of files)) longer) ∙ plain.1))
]

pub package_words : (files : List File) (b : BuildFile) → IsWorkspace files → Contains (packages_of files) b → IsPackageOf files b
unfolding packages_of
package_words files b w c =
    let found : List BuildFile = build_files (paths_of files) (paths_of files) in
    let there : Contains found b = Contains-permutation (in_order package_cmp found) found b (IsPermutation-sym found (in_order package_cmp found) (in_order_moves package_cmp by_package found)) c in
    let r = any_known (paths_of files) (paths_of files) b there in
    let n : Named (paths_of files) r.0 b = named (paths_of files) r.0 b (contained_valid (paths_of files) r.0 (valid_paths files w) r.1) r.2 in
    let known : Contains (paths_of files) b.path = subst (λ (p : List ℕ). Contains (paths_of files) p) (sym n.path_is) r.1 in
    let build : IsBuildPath files b.id b.path = subst (λ (p : List ℕ). IsBuildPath files b.id p) (sym n.path_is) (build_words files r.0 b n) in
    let place : split_repository b.path ≡ Some (b.id.repo, joined b.id.package (last_segment b.path)) =
    subst (λ (p : List ℕ). split_repository p ≡ Some (b.id.repo, joined b.id.package (last_segment p))) (sym n.path_is) n.place in
    record { known = known; valid = n.valid; build = build; repository = place }

pub packages_apart : (files : List File) → IsWorkspace files → IsStrictlySortedBy package_cmp (packages_of files)
unfolding packages_of
packages_apart files w = in_order_ascends package_cmp by_package (build_files (paths_of files) (paths_of files)) (distinct_build_files files w)

-- the paths alone decide the packages
pub packages_by_paths : (files others : List File) → paths_of files ≡ paths_of others → packages_of files ≡ packages_of others
unfolding packages_of
packages_by_paths files others e = ap (λ (ps : List (List ℕ)). in_order package_cmp (build_files ps ps)) e

-- a path of a workspace is that of one of its files
pub file_of_path : (files : List File) (path : List ℕ) → Contains (paths_of files) path → (f : File) × (Contains files f) × (f.path ≡ path)
file_of_path [] path c = absurd (omega arith)
file_of_path (f ∷ fs) path c = elim (head_or_tail f.path (paths_of fs) path c) [
  | inl is ↦ (f, at_head f fs, is)
  | inr d ↦ let r = file_of_path fs path d in (r.0, in_tail f fs r.0 r.1, r.2)
]
