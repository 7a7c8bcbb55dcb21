-- A package owns nothing beneath the directory of another package that owns a path beneath its own directory.
use Rattle.std.proofs.Common.{◌≡◌, ◌≢◌, ◌++◌, ◌⊎◌, ◌∙◌, ℕ, Bool, true, false, List, [], ◌∷◌, Option, Some, None, length, take, drop, codes, refl, sym, ap, subst, arith, inl, inr, append_assoc}
use Rattle.std.specs.Prelude.{IfSome, MatchOption}
use Rattle.std.proofs.lemmas.Bool.{cases_Bool, false≢true}
use Rattle.std.proofs.lemmas.List.{nil_from_length}
use Rattle.std.proofs.Math.Seq.{drop-append_seam, take-append_seam}
use Rattle.bq_label.specs.declared.packages.BuildFile.{BuildFile}
use Rattle.bq_label.specs.Label.{PackageParts, package_at}
use Rattle.bq_label.specs.Paths.{is_repository}
use Rattle.bq_label.specs.Packages.{label_path, owner_of, joined, repository_root, split_repository, IsPathOf, IsOver, IsOwner, OwnerIs}
use Rattle.bq_label.proofs.LabelFiles.{path_from_words}
use Rattle.bq_label.proofs.Owners.{owner_at}
use Rattle.bq_label.proofs.Repositories.{in_repository, some_parts}
use Rattle.bq_label_glob.specs.Names.{directory, is_beneath, is_package, is_owned, OwnsNothingBeneath}
use Rattle.bq_label_glob.proofs.Beneath.{beneath_whole}
use Rattle.bq_label_glob.proofs.GivenNames.{owned_words, words_owned}

-- ---- where a path lies

-- the repository of a path that has an owner
record IsIn (packages : List BuildFile) (path : List ℕ) (b : BuildFile) : Type 0 where
  repo : List ℕ
  rest : List ℕ
  split : split_repository path ≡ Some (repo, rest)
  owns : IsOwner packages repo rest b

no_owner : (packages : List BuildFile) (path : List ℕ) → split_repository path ≡ None → owner_of packages path ≡ None
unfolding owner_of
no_owner packages path e = rw e refl

is_in_by : (packages : List BuildFile) (path : List ℕ) (b : BuildFile) (v : Option (List ℕ × List ℕ)) → split_repository path ≡ v → owner_of packages path ≡ Some b → IsIn packages path b
is_in_by packages path b None e h = let none : None ≡ Some b = sym (no_owner packages path e) ∙ h in absurd (cc)
is_in_by packages path b (Some p) e h =
    record { repo = p.0; rest = p.1; split = e; owns = subst (OwnerIs packages p.0 p.1) h (owner_at packages path p.0 p.1 e) }

is_in : (packages : List BuildFile) (path : List ℕ) (b : BuildFile) → owner_of packages path ≡ Some b → IsIn packages path b
is_in packages path b h = is_in_by packages path b (split_repository path) refl h

-- ---- beneath the directory of a package

front : (repo dir name : List ℕ) → repo ≢ [] → repository_root repo ++ (joined dir [] ++ name) ≡ codes "external/" ++ (repo ++ (codes "/" ++ (joined dir [] ++ name)))
front [] dir name some = absurd (some refl)
front (b ∷ bs) dir name some =
    append_assoc (codes "external/") (b ∷ bs ++ codes "/") (joined dir [] ++ name)
    ∙ ap (λ (t : List ℕ). codes "external/" ++ t) (append_assoc (b ∷ bs) (codes "/") (joined dir [] ++ name))

cases_empty : (xs : List ℕ) → (xs ≡ []) ⊎ (xs ≢ [])
cases_empty [] = inl refl
cases_empty (x ∷ xs) = inr (λ e. absurd (cc))

-- what is beneath the directory of a package of another repository than the main one is in that repository
same_repository : (p : PackageParts) (path name repo rest : List ℕ) → is_repository p.repo ≡ true → path ≡ directory p ++ name → split_repository path ≡ Some (repo, rest) → (p.repo ≡ []) ⊎ (p.repo ≡ repo)
unfolding directory label_path
same_repository p path name repo rest valid e h = elim (cases_empty p.repo) [
  | inl main ↦ inl main
  | inr some ↦
      let whole : path ≡ codes "external/" ++ (p.repo ++ (codes "/" ++ (joined p.package [] ++ name))) = e ∙ (append_assoc (repository_root p.repo) (joined p.package []) name ∙ front p.repo p.package name some) in
      let there = path_from_words path p.repo (joined p.package [] ++ name) (IsPathOf.other some valid whole) in
      inr (ap (λ (q : List ℕ × List ℕ). q.0) (some_parts (sym there ∙ h)))
]

after_slash : (dir name rest : List ℕ) → rest ≡ joined dir [] ++ name → (dir ≡ []) ⊎ ((more : List ℕ) × (rest ≡ dir ++ 47 ∷ more))
after_slash [] name rest e = inl refl
after_slash (b ∷ bs) name rest e = inr (name, e ∙ append_assoc (b ∷ bs) (47 ∷ []) name)

-- the package is over what is beneath its directory
is_over : (b : BuildFile) (path name repo rest : List ℕ) → b.id.repo ≡ repo → path ≡ repository_root repo ++ rest → path ≡ directory b.id ++ name → IsOver repo rest b
unfolding directory label_path
is_over b path name repo rest same whole beneath =
    let there : repository_root repo ++ rest ≡ repository_root repo ++ (joined b.id.package [] ++ name) =
    sym whole ∙ (beneath ∙ (append_assoc (repository_root b.id.repo) (joined b.id.package []) name ∙ ap (λ (t : List ℕ). repository_root t ++ (joined b.id.package [] ++ name)) same)) in
    let after : rest ≡ joined b.id.package [] ++ name =
    sym (drop-append_seam (repository_root repo) rest) ∙ (ap (drop (length (repository_root repo))) there ∙ drop-append_seam (repository_root repo) (joined b.id.package [] ++ name)) in
    record { repo_is = same; above = after_slash b.id.package name rest after }

-- of two packages that are over a path, of which neither is longer, one is the other
same_path : (repo rest : List ℕ) (a b : BuildFile) → IsOver repo rest a → IsOver repo rest b → length a.id.package ≡ length b.id.package → a.id.package ≡ b.id.package
same_path repo rest a b x y long = elim x.above [
  | inl root ↦ root ∙ sym (nil_from_length b.id.package (sym long ∙ ap length root))
  | inr up ↦ elim y.above [
    | inl root ↦ nil_from_length a.id.package (long ∙ ap length root) ∙ sym root
    | inr over ↦
        sym (take-append_seam a.id.package (47 ∷ up.0))
        ∙ (ap (take (length a.id.package)) (sym up.1 ∙ over.1) ∙ (ap (λ (n : ℕ). take n (b.id.package ++ 47 ∷ over.0)) long ∙ take-append_seam b.id.package (47 ∷ over.0)))
  ]
]

-- ---- both

one_of_two : (r s : List ℕ) → (r ≡ []) ⊎ (r ≡ s) → (s ≡ []) ⊎ (s ≡ r) → r ≡ s
one_of_two r s a b = elim a [
  | inl none ↦ elim b [ inl nor ↦ none ∙ sym nor | inr same ↦ sym same ]
  | inr same ↦ same
]

module _ (packages : List BuildFile) (p : PackageParts) (path other : List ℕ) (o b : BuildFile) (x : IsIn packages path o) (y : IsIn packages other b) (is : b.id ≡ p)
    (beneath : path ≡ directory p ++ drop (length (directory p)) path) (below : other ≡ directory o.id ++ drop (length (directory o.id)) other) where
  repo_of_o : o.id.repo ≡ x.repo
  repo_of_o = x.owns.over.repo_is

  repo_of_b : b.id.repo ≡ y.repo
  repo_of_b = y.owns.over.repo_is

  beneath_b : path ≡ directory b.id ++ drop (length (directory b.id)) path
  beneath_b = subst (λ (q : PackageParts). path ≡ directory q ++ drop (length (directory q)) path) (sym is) beneath

  one_repository : x.repo ≡ y.repo
  one_repository =
      let first = same_repository o.id other (drop (length (directory o.id)) other) y.repo y.rest (ap is_repository repo_of_o ∙ (in_repository path x.repo x.rest x.split).valid) below y.split in
      let second = same_repository b.id path (drop (length (directory b.id)) path) x.repo x.rest (ap is_repository repo_of_b ∙ (in_repository other y.repo y.rest y.split).valid) beneath_b x.split in
      one_of_two x.repo y.repo
      (elim first [ inl main ↦ inl (sym repo_of_o ∙ main) | inr same ↦ inr (sym repo_of_o ∙ same) ])
      (elim second [ inl main ↦ inl (sym repo_of_b ∙ main) | inr same ↦ inr (sym repo_of_b ∙ same) ])

  b_is_over : IsOver x.repo x.rest b
  b_is_over = is_over b path (drop (length (directory b.id)) path) x.repo x.rest (repo_of_b ∙ sym one_repository) (in_repository path x.repo x.rest x.split).whole beneath_b

  o_is_over : IsOver y.repo y.rest o
  o_is_over = is_over o other (drop (length (directory o.id)) other) y.repo y.rest (repo_of_o ∙ one_repository) (in_repository other y.repo y.rest y.split).whole below

  one_package : o.id ≡ p
  one_package =
      let shorter = x.owns.no_longer b y.owns.known b_is_over in
      let longer = y.owns.no_longer o x.owns.known o_is_over in
      let long : length o.id.package ≡ length b.id.package = omega (arith, shorter, longer) in
      let path_same = same_path x.repo x.rest o b x.owns.over b_is_over long in
      let repo_same : o.id.repo ≡ b.id.repo = repo_of_o ∙ (one_repository ∙ sym repo_of_b) in
      (ap (λ (r : List ℕ). package_at r o.id.package) repo_same ∙ ap (λ (t : List ℕ). package_at b.id.repo t) path_same) ∙ is

pub owned_by : (packages : List BuildFile) (p : PackageParts) (path : List ℕ) (o : Option BuildFile) → o ≡ owner_of packages path → is_owned packages p path ≡ is_package p o
unfolding is_owned
owned_by packages p path o e = ap (is_package p) (sym e)

pub owns_nothing_beneath : (packages : List BuildFile) (p : PackageParts) (path : List ℕ) (o : BuildFile) → owner_of packages path ≡ Some o → is_beneath (directory p) path ≡ true → is_owned packages p path ≡ false
    → OwnsNothingBeneath packages p (directory o.id)
owns_nothing_beneath packages p path o owns beneath not other below = elim (cases_Bool (is_owned packages p other)) [
  | inl y ↦
      let w = owned_words packages p other y in
      let same = one_package packages p path other o w.owner (is_in packages path o owns) (is_in packages other w.owner w.owns) w.id (beneath_whole (directory p) path beneath) (beneath_whole (directory o.id) other below) in
      absurd (false≢true (sym not ∙ words_owned packages p path (record { owner = o; owns = owns; id = same })))
  | inr n ↦ n
]

-- what is beneath the other directory, if there is one, the package doesn't own
pub not_in_other : {A : Type 0} (dir : A → List ℕ) (packages : List BuildFile) (p : PackageParts) (other : Option A) (path : List ℕ) (found : Bool) → MatchOption other (found ≡ false) (λ d. found ≡ is_beneath (dir d) path) → found ≡ true
    → IfSome other (λ d. OwnsNothingBeneath packages p (dir d)) → is_owned packages p path ≡ false
not_in_other dir packages p None path found h y k = absurd (false≢true (sym h ∙ y))
not_in_other dir packages p (Some d) path found h y k = k path (sym h ∙ y)
