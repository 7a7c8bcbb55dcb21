-- A directory with a BUILD file is a package.
use Rattle.std.proofs.Common.{◌≡◌, ◌+◌, ◌++◌, ◌==◌, ◌&&◌, ℕ, true, false, not, List, [], ◌∷◌, Option, Some, None, length, drop, codes, refl, sym, ap, subst, ◌∙◌, arith, append_assoc, inl, inr, nat_eq}
use Rattle.std.proofs.lemmas.Bool.{cases_Bool, false≢true}
use Rattle.std.specs.Option.{option_map}
use Rattle.std.specs.Str.{bytes_eq}
use Rattle.std.specs.List.{starts_with, list_any, cons_option, Contains}
use Rattle.std.proofs.lemmas.List.Sorted.{Contains-permutation}
use Rattle.bq_label.specs.declared.workspace.File.{File}
use Rattle.bq_label.specs.declared.packages.BuildFile.{BuildFile}
use Rattle.bq_label.specs.Paths.{is_slash, is_repository}
use Rattle.bq_label.specs.Label.{PackageParts, package_at, last_segment}
use Rattle.bq_label.specs.Reading.{split_once}
use Rattle.bq_label.specs.Workspace.{is_above, paths_of}
use Rattle.bq_label.specs.Order.{in_order}
use Rattle.bq_label.specs.Packages.{external_root, split_repository, joined, directory_of, is_build_file, build_file, package_of_file, build_files, package_cmp, packages_of, IsBuildName, HasBuildFile, IsListed}
use Rattle.bq_label.proofs.Cases.{split_repository_by}
use Rattle.bq_label.proofs.Cuts.{cut_joined, cut_whole, last_whole}
use Rattle.bq_label.proofs.Above.{same_bytes, equal_bytes, above_whole, above_joined}
use Rattle.bq_label.proofs.Orders.{at_head, in_tail, head_or_tail, in_order_moves}
use Rattle.bq_label.proofs.Segments.{last_joined, directory_of_cut, directory_of_plain}
use Rattle.bq_label.proofs.Repositories.{in_repository, external_front}
use Rattle.bq_label.proofs.BuildFiles.{by_package, longer_name, wins_preferred}

some_same : {A : Type 0} {x y : A} → Some x ≡ Some y → x ≡ y
some_same e = cc

none_in : {X : Type 0} (z : X) → Contains [] z → ⊥
none_in z c = omega arith

-- ---- what a file's name says of its directory

plain_name : (n : List ℕ) → IsBuildName n → list_any is_slash n ≡ false
plain_name n (inl e) = ap (list_any is_slash) e
plain_name n (inr e) = ap (list_any is_slash) e

pub joined_directory : (d n : List ℕ) → list_any is_slash n ≡ false → directory_of (joined d n) ≡ d
joined_directory [] n h = directory_of_plain n h
joined_directory (b ∷ bs) n h = directory_of_cut (b ∷ bs ++ 47 ∷ n) (record { directory = b ∷ bs; name = n; whole = refl; plain = h })

pub joined_last : (d n : List ℕ) → list_any is_slash n ≡ false → last_segment (joined d n) ≡ n
joined_last [] n h = last_whole n h
joined_last (b ∷ bs) n h = last_joined (b ∷ bs) n ∙ last_whole n h

-- ---- the repository of a path with another name

external_word : List ℕ
external_word = codes "external"

cut_plain : (c : ℕ) (xs : List ℕ) (q : List ℕ × List ℕ) → split_once c xs ≡ Some q → list_any (λ b. b == c) q.0 ≡ false
unfolding split_once
cut_plain c [] q e = absurd (cc)
cut_plain c (b ∷ bs) q e = elim (cases_Bool (b == c)) [
  | inl y ↦
      let is : ([], bs) ≡ q = some_same (sym (rw y refl) ∙ e) in
      ap (λ (p : List ℕ × List ℕ). list_any (λ x. x == c) p.0) (sym is)
  | inr n ↦ by_rest (split_once c bs) n (λ r h. cut_plain c bs r h) (sym (rw n refl) ∙ e)
]
  where
    by_rest : (v : Option (List ℕ × List ℕ)) → (b == c) ≡ false → ((r : List ℕ × List ℕ) → v ≡ Some r → list_any (λ x. x == c) r.0 ≡ false) → option_map (λ p. (b ∷ p.0, p.1)) v ≡ Some q → list_any (λ x. x == c) q.0 ≡ false
    by_rest None n f e = absurd (cc)
    by_rest (Some r) n f e =
        let is : (b ∷ r.0, r.1) ≡ q = some_same e in
        let none : list_any (λ x. x == c) (b ∷ r.0) ≡ false = rw n (f r refl) in
        ap (λ (p : List ℕ × List ℕ). list_any (λ x. x == c) p.0) (sym is) ∙ none

none_cut : (c : ℕ) (xs : List ℕ) → split_once c xs ≡ None → list_any (λ b. b == c) xs ≡ false
unfolding split_once
none_cut c [] e = refl
none_cut c (b ∷ bs) e = elim (cases_Bool (b == c)) [
  | inl y ↦ let some : Some ([], bs) ≡ None = sym (rw y refl) ∙ e in absurd (cc)
  | inr n ↦ rw n (none_cut c bs (no_rest (split_once c bs) (sym (rw n refl) ∙ e)))
]
  where
    no_rest : (v : Option (List ℕ × List ℕ)) → option_map {U = List ℕ × List ℕ} (λ p. (b ∷ p.0, p.1)) v ≡ None → v ≡ None
    no_rest None h = refl
    no_rest (Some r) h = absurd (cc)

cut_more : (c : ℕ) (xs s : List ℕ) (q : List ℕ × List ℕ) → split_once c xs ≡ Some q → split_once c (xs ++ s) ≡ Some (q.0, q.1 ++ s)
cut_more c xs s q e =
    ap (λ (t : List ℕ). split_once c (t ++ s)) (cut_whole c xs q e) ∙ (ap (split_once c) (append_assoc q.0 (c ∷ q.1) s) ∙ cut_joined c q.0 (q.1 ++ s) (cut_plain c xs q e))

-- the same directory is above every name in it
above_names : (e d n m : List ℕ) → list_any is_slash e ≡ false → is_above e (d ++ 47 ∷ n) ≡ true → is_above e (d ++ 47 ∷ m) ≡ true
above_names e d n m plain h =
    let rest : List ℕ = drop (length e + 1) (d ++ 47 ∷ n) in
    let whole : d ++ 47 ∷ n ≡ e ++ 47 ∷ rest = above_whole e (d ++ 47 ∷ n) h in
    let first : split_once 47 (d ++ 47 ∷ n) ≡ Some (e, rest) = ap (split_once 47) whole ∙ cut_joined 47 e rest plain in
    by_cut (split_once 47 d) refl first
  where
    by_cut : (v : Option (List ℕ × List ℕ)) → split_once 47 d ≡ v → split_once 47 (d ++ 47 ∷ n) ≡ Some (e, drop (length e + 1) (d ++ 47 ∷ n)) → is_above e (d ++ 47 ∷ m) ≡ true
    by_cut None c first =
        let here : Some (d, n) ≡ Some (e, drop (length e + 1) (d ++ 47 ∷ n)) = sym (cut_joined 47 d n (none_cut 47 d c)) ∙ first in
        let is : d ≡ e = ap (λ (p : List ℕ × List ℕ). p.0) (some_same here) in
        subst (λ (t : List ℕ). is_above e (t ++ 47 ∷ m) ≡ true) (sym is) (above_joined e m)
    by_cut (Some q) c first =
        let here : Some (q.0, q.1 ++ 47 ∷ n) ≡ Some (e, drop (length e + 1) (d ++ 47 ∷ n)) = sym (cut_more 47 d (47 ∷ n) q c) ∙ first in
        let is : q.0 ≡ e = ap (λ (p : List ℕ × List ℕ). p.0) (some_same here) in
        let whole : d ≡ e ++ 47 ∷ q.1 = cut_whole 47 d q c ∙ ap (λ (t : List ℕ). t ++ 47 ∷ q.1) is in
        subst (λ (t : List ℕ). is_above e t ≡ true) (sym (ap (λ (t : List ℕ). t ++ 47 ∷ m) whole ∙ append_assoc e (47 ∷ q.1) (47 ∷ m))) (above_joined e (q.1 ++ 47 ∷ m))

starts_other : (path : List ℕ) → starts_with nat_eq path external_root ≡ is_above (codes "external") path
unfolding is_above
starts_other path = refl

not_above : (d n m : List ℕ) → is_above (codes "external") (d ++ 47 ∷ n) ≡ false → is_above (codes "external") (d ++ 47 ∷ m) ≡ false
not_above d n m h = elim (cases_Bool (is_above (codes "external") (d ++ 47 ∷ m))) [
  | inl y ↦ absurd (false≢true (sym h ∙ above_names (codes "external") d m n refl y))
  | inr o ↦ o
]

short_name : (k : List ℕ) → IsBuildName k → is_above (codes "external") k ≡ false
unfolding is_above
short_name k (inl e) = ap (is_above (codes "external")) e
short_name k (inr e) = ap (is_above (codes "external")) e

main_name : (d n m : List ℕ) → IsBuildName m → is_above (codes "external") (joined d n) ≡ false → is_above (codes "external") (joined d m) ≡ false
main_name [] n m hm h = short_name m hm
main_name (b ∷ bs) n m hm h = not_above (b ∷ bs) n m h

longer_below : (v : Option (List ℕ × List ℕ)) (below r d : List ℕ) → split_once 47 below ≡ v → split_repository_by v ≡ Some (r, joined d (codes "BUILD")) → split_repository_by (split_once 47 (below ++ codes ".bazel")) ≡ Some (r, joined d (codes "BUILD.bazel"))
longer_below None below r d c h = absurd (cc)
longer_below (Some q) below r d c h = elim (cases_Bool (not (bytes_eq q.0 []) && is_repository q.0)) [
  | inl y ↦
      let is : q ≡ (r, joined d (codes "BUILD")) = some_same (sym (rw y refl) ∙ h) in
      let cut : split_once 47 (below ++ codes ".bazel") ≡ Some (q.0, q.1 ++ codes ".bazel") = cut_more 47 below (codes ".bazel") q c in
      let found : split_repository_by (Some (q.0, q.1 ++ codes ".bazel")) ≡ Some (q.0, q.1 ++ codes ".bazel") = rw y refl in
      ap split_repository_by cut ∙ (found ∙ (ap (λ (p : List ℕ × List ℕ). Some (p.0, p.1 ++ codes ".bazel")) is ∙ ap (λ (t : List ℕ). Some (r, t)) (longer_name d)))
  | inr n ↦ let none : None ≡ Some (r, joined d (codes "BUILD")) = sym (rw n refl) ∙ h in absurd (cc)
]

external_home_of : (below : List ℕ) → split_repository (codes "external/" ++ below) ≡ split_repository_by (split_once 47 below)
unfolding split_repository
external_home_of below = refl

main_home_of : (path : List ℕ) → is_above (codes "external") path ≡ false → split_repository path ≡ Some ([], path)
unfolding split_repository
main_home_of path h = let no : starts_with nat_eq path external_root ≡ false = starts_other path ∙ h in rw no refl

-- a `BUILD.bazel` beside a `BUILD` is in the same directory of the same repository
home_longer : (path r d : List ℕ) → split_repository path ≡ Some (r, joined d (codes "BUILD")) → split_repository (path ++ codes ".bazel") ≡ Some (r, joined d (codes "BUILD.bazel"))
home_longer path r d h = elim (cases_Bool (is_above (codes "external") path)) [
  | inl y ↦
      let below : List ℕ = drop 9 path in
      let whole : path ≡ codes "external/" ++ below = external_front path (starts_other path ∙ y) in
      let there : split_repository_by (split_once 47 below) ≡ Some (r, joined d (codes "BUILD")) = sym (external_home_of below) ∙ (ap split_repository (sym whole) ∙ h) in
      ap (λ (t : List ℕ). split_repository (t ++ codes ".bazel")) whole ∙ (external_home_of (below ++ codes ".bazel") ∙ longer_below (split_once 47 below) below r d refl there)
  | inr n ↦
      let is : ([], path) ≡ (r, joined d (codes "BUILD")) = some_same (sym (main_home_of path n) ∙ h) in
      let repo : [] ≡ r = ap (λ (q : List ℕ × List ℕ). q.0) is in
      let there : path ≡ joined d (codes "BUILD") = ap (λ (q : List ℕ × List ℕ). q.1) is in
      let longer : path ++ codes ".bazel" ≡ joined d (codes "BUILD.bazel") = ap (λ (t : List ℕ). t ++ codes ".bazel") there ∙ longer_name d in
      let main : is_above (codes "external") (joined d (codes "BUILD.bazel")) ≡ false = main_name d (codes "BUILD") (codes "BUILD.bazel") (inl refl) (sym (ap (is_above (codes "external")) there) ∙ n) in
      ap split_repository longer ∙ (main_home_of (joined d (codes "BUILD.bazel")) main ∙ ap (λ (q : List ℕ). Some (q, joined d (codes "BUILD.bazel"))) repo)
]

-- ---- the listing

any_path : (fs : List File) (t : List ℕ) → list_any (bytes_eq t) (paths_of fs) ≡ true → (g : File) × (Contains fs g) × (g.path ≡ t)
any_path [] t h = absurd (false≢true h)
any_path (f ∷ fs) t h = elim (cases_Bool (bytes_eq t f.path)) [
  | inl y ↦ (f, at_head f fs, sym (same_bytes t f.path y))
  | inr n ↦ let r = any_path fs t (sym (rw n refl) ∙ h) in (r.0, in_tail f fs r.0 r.1, r.2)
]

kept_by : (b : BuildFile) (v : Option BuildFile) (bs : List BuildFile) → Contains bs b → Contains (cons_option v bs) b
kept_by b None bs c = c
kept_by b (Some a) bs c = in_tail a bs b c

contained : (paths : List (List ℕ)) (fs : List File) (f : File) (b : BuildFile) → Contains fs f → package_of_file paths f.path ≡ Some b → Contains (build_files paths (paths_of fs)) b
contained paths [] f b c e = absurd (none_in f c)
contained paths (g ∷ fs) f b c e = elim (head_or_tail g fs f c) [
  | inl is ↦
      let here : package_of_file paths g.path ≡ Some b = ap (λ (x : File). package_of_file paths x.path) is ∙ e in
      subst (λ (v : Option BuildFile). Contains (cons_option v (build_files paths (paths_of fs))) b) (sym here) (at_head b (build_files paths (paths_of fs)))
  | inr d ↦ kept_by b (package_of_file paths g.path) (build_files paths (paths_of fs)) (contained paths fs f b d e)
]

won : (paths : List (List ℕ)) (path : List ℕ) (p : PackageParts) (n : List ℕ) → is_build_file paths path ≡ true → split_repository path ≡ Some (p.repo, joined p.package n) → package_of_file paths path ≡ Some (build_file path (p.repo, joined p.package n))
unfolding package_of_file
won paths path p n w h = rw (w, h) refl

listed : (files : List File) (f : File) (p : PackageParts) (n : List ℕ) → Contains files f → list_any is_slash n ≡ false → is_build_file (paths_of files) f.path ≡ true → split_repository f.path ≡ Some (p.repo, joined p.package n) → IsListed (packages_of files) p
unfolding packages_of
listed files f p n c plain w h =
    let found : List BuildFile = build_files (paths_of files) (paths_of files) in
    let b : BuildFile = build_file f.path (p.repo, joined p.package n) in
    record {
      entry = b;
      known = Contains-permutation found (in_order package_cmp found) b (in_order_moves package_cmp by_package found) (contained (paths_of files) files f b c (won (paths_of files) f.path p n w h));
      id = ap (λ (d : List ℕ). package_at p.repo d) (joined_directory p.package n plain);
    }

last_name : (path r d n : List ℕ) → list_any is_slash n ≡ false → split_repository path ≡ Some (r, joined d n) → last_segment path ≡ n
last_name path r d n plain h = (in_repository path r (joined d n) h).last ∙ joined_last d n plain

preferred_wins : (paths : List (List ℕ)) (path : List ℕ) → last_segment path ≡ codes "BUILD.bazel" → is_build_file paths path ≡ true
preferred_wins paths path e = wins_preferred paths path (equal_bytes (last_segment path) (codes "BUILD.bazel") e)

plain_wins : (paths : List (List ℕ)) (path : List ℕ) → last_segment path ≡ codes "BUILD" → list_any (bytes_eq (path ++ codes ".bazel")) paths ≡ false → is_build_file paths path ≡ true
unfolding is_build_file
plain_wins paths path e h = rw (e, h) refl

-- a directory with a BUILD file is one of the packages
pub build_file_listed : (files : List File) (p : PackageParts) → HasBuildFile files p → IsListed (packages_of files) p
build_file_listed files p h = elim h.build_name [
  | inl preferred ↦
      let at : split_repository h.file.path ≡ Some (p.repo, joined p.package (codes "BUILD.bazel")) = h.repository ∙ ap (λ (n : List ℕ). Some (p.repo, joined p.package n)) preferred in
      listed files h.file p (codes "BUILD.bazel") h.known refl (preferred_wins (paths_of files) h.file.path (last_name h.file.path p.repo p.package (codes "BUILD.bazel") refl at)) at
  | inr plain ↦
      let at : split_repository h.file.path ≡ Some (p.repo, joined p.package (codes "BUILD")) = h.repository ∙ ap (λ (n : List ℕ). Some (p.repo, joined p.package n)) plain in
      elim (cases_Bool (list_any (bytes_eq (h.file.path ++ codes ".bazel")) (paths_of files))) [
        | inl y ↦
            let r = any_path files (h.file.path ++ codes ".bazel") y in
            let other : split_repository r.0.path ≡ Some (p.repo, joined p.package (codes "BUILD.bazel")) = ap split_repository r.2 ∙ home_longer h.file.path p.repo p.package at in
            listed files r.0 p (codes "BUILD.bazel") r.1 refl (preferred_wins (paths_of files) r.0.path (last_name r.0.path p.repo p.package (codes "BUILD.bazel") refl other)) other
        | inr n ↦ listed files h.file p (codes "BUILD") h.known refl (plain_wins (paths_of files) h.file.path (last_name h.file.path p.repo p.package (codes "BUILD") refl at) n) at
      ]
]
