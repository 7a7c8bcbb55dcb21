-- Which paths are in which repository, in words; and a label names the file of its repository, which is the one at its path.
use Rattle.std.proofs.Common.{◌≡◌, ◌≢◌, ◌++◌, ◌&&◌, ℕ, Bool, true, false, not, List, [], ◌∷◌, Option, Some, None, length, drop, nat_eq, codes, refl, sym, ap, ◌∙◌, append_assoc, inl, inr}
use Rattle.std.proofs.lemmas.Bool.{cases_Bool, false≢true}
use Rattle.std.proofs.lemmas.Bool.Decides.{Decides-eqb}
use Rattle.std.proofs.lemmas.Slice.Eq.{starts_is}
use Rattle.std.specs.Str.{bytes_eq}
use Rattle.std.specs.List.{Contains, find, starts_with}
use Rattle.bq_label.specs.declared.workspace.File.{File}
use Rattle.bq_label.specs.Label.{LabelParts}
use Rattle.bq_label.specs.Paths.{is_repository}
use Rattle.bq_label.specs.Reading.{split_once}
use Rattle.bq_label.specs.Workspace.{file_at}
use Rattle.bq_label.specs.Packages.{repository_root, joined, label_path, external_root, split_repository, IsPathOf, is_in, is_in_repository, label_file, IsFileOf, FileIs}
use Rattle.bq_label.proofs.Cases.{is_at, split_repository_by}
use Rattle.bq_label.proofs.Cuts.{cut_joined, cut_whole}
use Rattle.bq_label.proofs.Readings.{first_of_two, second_of_two, no_slash}
use Rattle.bq_label.proofs.Above.{same_bytes, equal_bytes}
use Rattle.bq_label.proofs.Repositories.{in_repository, external_front, some_parts}
use Rattle.bq_label.proofs.Owners.{find_some, find_none_in}

-- ---- tests

not_true : (b : Bool) → not b ≡ true → b ≡ false
not_true true h = absurd (false≢true h)
not_true false h = refl

both_true : (a b : Bool) → a ≡ true → b ≡ true → (a && b) ≡ true
both_true a b h k = rw (h, k) refl

differ : (xs ys : List ℕ) → bytes_eq xs ys ≡ false → xs ≢ ys
differ xs ys h e = false≢true (sym h ∙ equal_bytes xs ys e)

unequal : (xs ys : List ℕ) → xs ≢ ys → bytes_eq xs ys ≡ false
unequal xs ys n = elim (cases_Bool (bytes_eq xs ys)) [ inl y ↦ absurd (n (same_bytes xs ys y)) | inr o ↦ o ]

begun : (path below : List ℕ) → path ≡ codes "external/" ++ below → starts_with nat_eq path external_root ≡ true
begun path below e = (starts_is Decides-eqb path external_root (starts_with nat_eq path external_root) refl).1 below e

-- ---- the repository of a path

below_external : (path below : List ℕ) (v : Option (List ℕ × List ℕ)) (repo rest : List ℕ) → path ≡ codes "external/" ++ below → split_once 47 below ≡ v → split_repository_by v ≡ Some (repo, rest)
    → IsPathOf path repo rest
below_external path below None repo rest e c h = absurd (cc)
below_external path below (Some p) repo rest e c h = elim (cases_Bool (not (bytes_eq p.0 []) && is_repository p.0)) [
  | inl y ↦
      let is : p ≡ (repo, rest) = some_parts (sym (rw y refl) ∙ h) in
      let name : p.0 ≡ repo = ap (λ (q : List ℕ × List ℕ). q.0) is in
      let some : bytes_eq p.0 [] ≡ false = not_true (bytes_eq p.0 []) (first_of_two (not (bytes_eq p.0 [])) (is_repository p.0) y) in
      let cut : below ≡ repo ++ 47 ∷ rest = cut_whole 47 below p c ∙ ap (λ (q : List ℕ × List ℕ). q.0 ++ 47 ∷ q.1) is in
      IsPathOf.other
      (differ repo [] (sym (ap (λ (t : List ℕ). bytes_eq t []) name) ∙ some))
      (sym (ap is_repository name) ∙ second_of_two (not (bytes_eq p.0 [])) (is_repository p.0) y)
      (e ∙ ap (λ (t : List ℕ). codes "external/" ++ t) cut)
  | inr n ↦ let none : None ≡ Some (repo, rest) = sym (rw n refl) ∙ h in absurd (cc)
]

pub path_in_words : (path repo rest : List ℕ) → split_repository path ≡ Some (repo, rest) → IsPathOf path repo rest
unfolding split_repository
path_in_words path repo rest h = elim (cases_Bool (starts_with nat_eq path external_root)) [
  | inl y ↦ below_external path (drop 9 path) (split_once 47 (drop 9 path)) repo rest (external_front path y) refl (sym (rw y refl) ∙ h)
  | inr n ↦
      let is : ([], path) ≡ (repo, rest) = some_parts (sym (rw n refl) ∙ h) in
      IsPathOf.main
      (sym (ap (λ (q : List ℕ × List ℕ). q.0) is))
      (ap (λ (q : List ℕ × List ℕ). q.1) is)
      (λ below e. false≢true (sym n ∙ begun path below e))
]

in_another : (repo rest : List ℕ) → repo ≢ [] → is_repository repo ≡ true → split_repository_by (split_once 47 (repo ++ 47 ∷ rest)) ≡ Some (repo, rest)
in_another repo rest some valid = rw (cut_joined 47 repo rest (no_slash repo valid), unequal repo [] some, valid) refl

pub path_from_words : (path repo rest : List ℕ) → IsPathOf path repo rest → split_repository path ≡ Some (repo, rest)
unfolding split_repository
path_from_words path repo rest (IsPathOf.main r e outside) = elim (cases_Bool (starts_with nat_eq path external_root)) [
  | inl y ↦ absurd (outside (drop 9 path) (external_front path y))
  | inr n ↦ rw n (ap (λ (t : List ℕ). Some ([], t)) e ∙ ap (λ (t : List ℕ). Some (t, rest)) (sym r))
]
path_from_words path repo rest (IsPathOf.other some valid e) =
    let below : drop 9 path ≡ repo ++ 47 ∷ rest = ap (λ (t : List ℕ). drop 9 t) e in
    rw (begun path (repo ++ 47 ∷ rest) e, below) (in_another repo rest some valid)

-- ---- the file of a label

at_place : (repo rest : List ℕ) (v : Option (List ℕ × List ℕ)) → is_at repo rest v ≡ true → v ≡ Some (repo, rest)
at_place repo rest None h = absurd (false≢true h)
at_place repo rest (Some p) h =
    let r : p.0 ≡ repo = same_bytes p.0 repo (first_of_two (bytes_eq p.0 repo) (bytes_eq p.1 rest) h) in
    let t : p.1 ≡ rest = same_bytes p.1 rest (second_of_two (bytes_eq p.0 repo) (bytes_eq p.1 rest) h) in
    ap (λ (x : List ℕ). Some (x, p.1)) r ∙ ap (λ (x : List ℕ). Some (repo, x)) t

is_there : (repo rest : List ℕ) (v : Option (List ℕ × List ℕ)) → v ≡ Some (repo, rest) → is_at repo rest v ≡ true
is_there repo rest v e = ap (is_at repo rest) e ∙ both_true (bytes_eq repo repo) (bytes_eq rest rest) (equal_bytes repo repo refl) (equal_bytes rest rest refl)

pub file_known : (files : List File) (l : LabelParts) (f : File) → label_file files l ≡ Some f → IsFileOf files l f
unfolding label_file
file_known files l f e =
    let rest : List ℕ = joined l.package l.name in
    let found = find_some (λ (g : File). is_at l.repo rest (split_repository g.path)) files f e in
    record { known = found.0; path = path_in_words f.path l.repo rest (at_place l.repo rest (split_repository f.path) found.1) }

pub file_unknown : (files : List File) (l : LabelParts) → label_file files l ≡ None → (f : File) → IsFileOf files l f → ⊥
unfolding label_file
file_unknown files l e f x =
    let rest : List ℕ = joined l.package l.name in
    let no : is_at l.repo rest (split_repository f.path) ≡ false = find_none_in (λ (g : File). is_at l.repo rest (split_repository g.path)) files e f x.known in
    false≢true (sym no ∙ is_there l.repo rest (split_repository f.path) (path_from_words f.path l.repo rest x.path))

pub file_in_words : (files : List File) (l : LabelParts) → FileIs files l (label_file files l)
file_in_words files l = by (label_file files l) refl
  where
    by : (v : Option File) → label_file files l ≡ v → FileIs files l v
    by None e = file_unknown files l e
    by (Some f) e = file_known files l f e

-- ---- how it is found

-- what two texts have after one front is the same
behind : (front a b : List ℕ) → front ++ a ≡ front ++ b → a ≡ b
behind [] a b e = e
behind (x ∷ xs) a b e = behind xs a b (ap (λ (t : List ℕ). drop 1 t) e)

find_alike : {X : Type 0} (p q : X → Bool) → ((x : X) → p x ≡ q x) → (xs : List X) → find p xs ≡ find q xs
find_alike p q same [] = refl
find_alike p q same (x ∷ xs) = elim (cases_Bool (q x)) [
  | inl y ↦ rw (same x, y) refl
  | inr n ↦ rw (same x, n) (find_alike p q same xs)
]

find_nothing : {X : Type 0} (p : X → Bool) → ((x : X) → p x ≡ false) → (xs : List X) → find p xs ≡ None
find_nothing p none [] = refl
find_nothing p none (x ∷ xs) = rw (none x) (find_nothing p none xs)

module _ (l : LabelParts) where
  -- where the label's path lies in its repository, it is the path of the name in the package there
  own_by : (v : Option (List ℕ × List ℕ)) → split_repository (label_path l) ≡ v → is_in l.repo v ≡ true → split_repository (label_path l) ≡ Some (l.repo, joined l.package l.name)
  unfolding label_path
  own_by None e h = absurd (false≢true h)
  own_by (Some p) e h =
      let r : p.0 ≡ l.repo = same_bytes p.0 l.repo h in
      let there : split_repository (label_path l) ≡ Some (l.repo, p.1) = e ∙ ap (λ (x : List ℕ). Some (x, p.1)) r in
      let whole : label_path l ≡ repository_root l.repo ++ p.1 = (in_repository (label_path l) l.repo p.1 there).whole in
      there ∙ ap (λ (x : List ℕ). Some (l.repo, x)) (sym (behind (repository_root l.repo) (joined l.package l.name) p.1 whole))

  pub own_path : is_in_repository l.repo (label_path l) ≡ true → split_repository (label_path l) ≡ Some (l.repo, joined l.package l.name)
  unfolding is_in_repository
  own_path h = own_by (split_repository (label_path l)) refl h

  path_is : (path : List ℕ) → split_repository path ≡ Some (l.repo, joined l.package l.name) → path ≡ label_path l
  unfolding label_path
  path_is path e = (in_repository path l.repo (joined l.package l.name) e).whole

  -- the files at the label's path are those of its name in its repository
  alike : is_in_repository l.repo (label_path l) ≡ true → (f : File) → bytes_eq f.path (label_path l) ≡ is_at l.repo (joined l.package l.name) (split_repository f.path)
  alike h f = elim (cases_Bool (bytes_eq f.path (label_path l))) [
    | inl y ↦ y ∙ sym (is_there l.repo (joined l.package l.name) (split_repository f.path) (ap split_repository (same_bytes f.path (label_path l) y) ∙ own_path h))
    | inr n ↦ n ∙ sym (not_there f n)
  ]
    where
      not_there : (f : File) → bytes_eq f.path (label_path l) ≡ false → is_at l.repo (joined l.package l.name) (split_repository f.path) ≡ false
      not_there f n = elim (cases_Bool (is_at l.repo (joined l.package l.name) (split_repository f.path))) [
        | inl y ↦ absurd (differ f.path (label_path l) n (path_is f.path (at_place l.repo (joined l.package l.name) (split_repository f.path) y)))
        | inr o ↦ o
      ]

  pub file_here : (files : List File) → is_in_repository l.repo (label_path l) ≡ true → file_at files (label_path l) ≡ label_file files l
  unfolding file_at label_file
  file_here files h = find_alike (λ (f : File). bytes_eq f.path (label_path l)) (λ (f : File). is_at l.repo (joined l.package l.name) (split_repository f.path)) (alike h) files

  in_repository_of : (v : Option (List ℕ × List ℕ)) → v ≡ Some (l.repo, joined l.package l.name) → is_in l.repo v ≡ true
  in_repository_of v e = ap (is_in l.repo) e ∙ equal_bytes l.repo l.repo refl

  nowhere : is_in_repository l.repo (label_path l) ≡ false → (f : File) → is_at l.repo (joined l.package l.name) (split_repository f.path) ≡ false
  unfolding is_in_repository
  nowhere h f = elim (cases_Bool (is_at l.repo (joined l.package l.name) (split_repository f.path))) [
    | inl y ↦
        let there : split_repository f.path ≡ Some (l.repo, joined l.package l.name) = at_place l.repo (joined l.package l.name) (split_repository f.path) y in
        absurd (false≢true (sym h ∙ in_repository_of (split_repository (label_path l)) (sym (ap split_repository (path_is f.path there)) ∙ there)))
    | inr o ↦ o
  ]

  pub no_file_here : (files : List File) → is_in_repository l.repo (label_path l) ≡ false → label_file files l ≡ None
  unfolding label_file
  no_file_here files h = find_nothing (λ (f : File). is_at l.repo (joined l.package l.name) (split_repository f.path)) (nowhere h) files

-- ---- the function that finds it

pub no_file_by : (files : List File) (l : LabelParts) (path repo : List ℕ) (b : Bool) → path ≡ label_path l → repo ≡ l.repo → b ≡ is_in_repository repo path → b ≡ false → None ≡ label_file files l
no_file_by files l path repo b e f is outside =
    sym (no_file_here l files (sym (ap (λ (r : List ℕ). is_in_repository r (label_path l)) f) ∙ (sym (ap (is_in_repository repo) e) ∙ (sym is ∙ outside))))

pub file_by : (files : List File) (l : LabelParts) (path repo : List ℕ) (b : Bool) (found : Option File) → path ≡ label_path l → repo ≡ l.repo → b ≡ is_in_repository repo path → b ≡ true
    → found ≡ file_at files (label_path l) → found ≡ label_file files l
file_by files l path repo b found e f is inside there =
    there ∙ file_here l files (sym (ap (λ (r : List ℕ). is_in_repository r (label_path l)) f) ∙ (sym (ap (is_in_repository repo) e) ∙ (sym is ∙ inside)))
