-- The names that glob gives, in words, and in order.
use Rattle.std.proofs.Common.{◌≡◌, ◌++◌, ◌&&◌, ◌↔◌, ◌⊎◌, ℕ, true, not, List, [], ◌∷◌, Option, Some, None, length, drop, refl, sym, ap, subst, ◌∙◌, arith, inl, inr, append_assoc}
use Rattle.std.proofs.lemmas.Bool.{cases_Bool, false≢true}
use Rattle.std.proofs.Math.Seq.{drop-append_seam}
use Rattle.std.specs.List.{list_any, Contains, AllByRecursion}
use Rattle.std.specs.List.Sorted.{IsStrictlySortedBy}
use Rattle.std.specs.Ordering.{nat_cmp}
use Rattle.std.specs.declared.cmp.Ordering.TheVariants.{Less}
use Rattle.std.specs.Cmp.Lexicographic.{slice_cmp}
use Rattle.std.specs.Str.{bytes_eq}
use Rattle.std.proofs.lemmas.Cmp.{nat_cmp_total, tied_itself}
use Rattle.std.proofs.lemmas.Map.Keys.{sorted_head, sorted_tail}
use Rattle.bq_label.specs.declared.workspace.File.{File}
use Rattle.bq_label.specs.declared.packages.BuildFile.{BuildFile}
use Rattle.bq_label.specs.Label.{PackageParts, label_in, package_at}
use Rattle.bq_label.specs.Workspace.{path_cmp, paths_of, IsWorkspace}
use Rattle.bq_label.specs.Packages.{label_path, owner_of, is_package_id, repository_root, joined, split_repository, OwnerIs, IsOwner}
use Rattle.bq_label.proofs.Above.{same_bytes, equal_bytes}
use Rattle.bq_label.proofs.Orders.{head_or_tail, at_head, in_tail}
use Rattle.bq_label.proofs.Owners.{owner_at}
use Rattle.bq_label.proofs.Readings.{first_of_two, second_of_two}
use Rattle.bq_label.proofs.Repositories.{in_repository}
use Rattle.bq_label_glob.specs.Matching.{matches}
use Rattle.bq_label_glob.specs.Names.{directory, is_beneath, is_package, is_owned, name_in, is_wanted, glob, IsOwned, IsMatched, IsGiven, HasName}
use Rattle.bq_label_glob.proofs.Beneath.{beneath_whole, beneath_joined}
use Rattle.bq_label_glob.proofs.Cuttings.{cuttings}
use Rattle.bq_label_glob.proofs.Listing.{none_given, unnamed, unwanted, wanted}

none_in : {X : Type 0} (z : X) → Contains [] z → ⊥
none_in z c = absurd (omega arith)

some_same : {A : Type 0} {x y : A} → Some x ≡ Some y → x ≡ y
some_same e = cc

-- ---- names and paths

joined_name : (dir name : List ℕ) → joined dir name ≡ joined dir [] ++ name
joined_name [] name = refl
joined_name (b ∷ bs) name = sym (append_assoc (b ∷ bs) (47 ∷ []) name)

pub directory_name : (p : PackageParts) (name : List ℕ) → label_path (label_in p name) ≡ directory p ++ name
unfolding directory label_path
directory_name p name = ap (λ (t : List ℕ). repository_root p.repo ++ t) (joined_name p.package name) ∙ sym (append_assoc (repository_root p.repo) (joined p.package []) name)

same_package : (p : PackageParts) (b : BuildFile) → is_package_id p.repo p.package b ≡ true → b.id ≡ p
same_package p b h =
    let repo : b.id.repo ≡ p.repo = same_bytes b.id.repo p.repo (first_of_two (bytes_eq b.id.repo p.repo) (bytes_eq b.id.package p.package) h) in
    let path : b.id.package ≡ p.package = same_bytes b.id.package p.package (second_of_two (bytes_eq b.id.repo p.repo) (bytes_eq b.id.package p.package) h) in
    ap (λ (r : List ℕ). package_at r b.id.package) repo ∙ ap (λ (t : List ℕ). package_at p.repo t) path

package_same : (p : PackageParts) (b : BuildFile) → b.id ≡ p → is_package_id p.repo p.package b ≡ true
package_same p b e = subst (λ (q : PackageParts). is_package_id q.repo q.package b ≡ true) e (rw (equal_bytes b.id.repo b.id.repo refl) (equal_bytes b.id.package b.id.package refl))

owned_by : (packages : List BuildFile) (p : PackageParts) (path : List ℕ) (v : Option BuildFile) → owner_of packages path ≡ v → is_package p v ≡ true → IsOwned packages p path
owned_by packages p path None e h = absurd (false≢true h)
owned_by packages p path (Some b) e h = record { owner = b; owns = e; id = same_package p b h }

pub owned_words : (packages : List BuildFile) (p : PackageParts) (path : List ℕ) → is_owned packages p path ≡ true → IsOwned packages p path
unfolding is_owned
owned_words packages p path h = owned_by packages p path (owner_of packages path) refl h

pub words_owned : (packages : List BuildFile) (p : PackageParts) (path : List ℕ) → IsOwned packages p path → is_owned packages p path ≡ true
unfolding is_owned
words_owned packages p path o = ap (is_package p) o.owns ∙ package_same p o.owner o.id

name_words : (packages : List BuildFile) (p : PackageParts) (path name : List ℕ) → name_in packages p path ≡ Some name → (path ≡ label_path (label_in p name)) × IsOwned packages p path
unfolding name_in
name_words packages p path name h = elim (cases_Bool (is_beneath (directory p) path && is_owned packages p path)) [
  | inl y ↦
      let is : drop (length (directory p)) path ≡ name = some_same (sym (rw y refl) ∙ h) in
      let whole = beneath_whole (directory p) path (first_of_two (is_beneath (directory p) path) (is_owned packages p path) y) in
      (whole ∙ (ap (λ (t : List ℕ). directory p ++ t) is ∙ sym (directory_name p name)), owned_words packages p path (second_of_two (is_beneath (directory p) path) (is_owned packages p path) y))
  | inr n ↦ let none : None ≡ Some name = sym (rw n refl) ∙ h in absurd (cc)
]

words_name : (packages : List BuildFile) (p : PackageParts) (path name : List ℕ) → path ≡ label_path (label_in p name) → IsOwned packages p path → name_in packages p path ≡ Some name
unfolding name_in
words_name packages p path name e o =
    let whole : path ≡ directory p ++ name = e ∙ directory_name p name in
    let beneath : is_beneath (directory p) path ≡ true = subst (λ (t : List ℕ). is_beneath (directory p) t ≡ true) (sym whole) (beneath_joined (directory p) name) in
    let rest : drop (length (directory p)) path ≡ name = ap (drop (length (directory p))) whole ∙ drop-append_seam (directory p) name in
    rw (beneath, words_owned packages p path o) (ap (λ (t : List ℕ). Some t) rest)

-- ---- patterns

matched_words : (patterns : List (List ℕ)) (name : List ℕ) → list_any (λ p. matches p name) patterns ≡ true → IsMatched patterns name
matched_words [] name h = absurd (false≢true h)
matched_words (p ∷ ps) name h = elim (cases_Bool (matches p name)) [
  | inl y ↦ record { pattern = p; known = at_head p ps; match = (cuttings p name).0 y }
  | inr n ↦ let later = matched_words ps name (sym (rw n refl) ∙ h) in record { pattern = later.pattern; known = in_tail p ps later.pattern later.known; match = later.match }
]

words_matched : (patterns : List (List ℕ)) (name pattern : List ℕ) → Contains patterns pattern → matches pattern name ≡ true → list_any (λ p. matches p name) patterns ≡ true
words_matched [] name pattern k m = absurd (none_in pattern k)
words_matched (p ∷ ps) name pattern k m = elim (head_or_tail p ps pattern k) [
  | inl is ↦ rw (ap (λ (q : List ℕ). matches q name) is ∙ m) refl
  | inr there ↦ elim (cases_Bool (matches p name)) [ inl y ↦ rw y refl | inr n ↦ rw n (words_matched ps name pattern there m) ]
]

is_matched : (patterns : List (List ℕ)) (name : List ℕ) → IsMatched patterns name → list_any (λ p. matches p name) patterns ≡ true
is_matched patterns name m = words_matched patterns name m.pattern m.known ((cuttings m.pattern name).1 m.match)

wanted_words : (include exclude : List (List ℕ)) (name : List ℕ) → is_wanted include exclude name ≡ true → IsMatched include name × (IsMatched exclude name → ⊥)
unfolding is_wanted
wanted_words include exclude name h =
    let some = first_of_two (list_any (λ p. matches p name) include) (not (list_any (λ p. matches p name) exclude)) h in
    let none = second_of_two (list_any (λ p. matches p name) include) (not (list_any (λ p. matches p name) exclude)) h in
    (matched_words include name some, λ m. false≢true (sym (ap not (is_matched exclude name m)) ∙ none))

words_wanted : (include exclude : List (List ℕ)) (name : List ℕ) → IsMatched include name → (IsMatched exclude name → ⊥) → is_wanted include exclude name ≡ true
unfolding is_wanted
words_wanted include exclude name m n = rw (is_matched include name m) (elim (cases_Bool (list_any (λ p. matches p name) exclude)) [
  | inl y ↦ absurd (n (matched_words exclude name y))
  | inr o ↦ rw o refl
])

-- ---- the files that are given

record Source (packages : List BuildFile) (p : PackageParts) (include exclude paths : List (List ℕ)) (name : List ℕ) : Type 0 where
  path : List ℕ
  known : Contains paths path
  named : name_in packages p path ≡ Some name
  wants : is_wanted include exclude name ≡ true

module _ (packages : List BuildFile) (p : PackageParts) (include exclude : List (List ℕ)) where
  later_source : (f : List ℕ) (fs : List (List ℕ)) (name : List ℕ) → Source packages p include exclude fs name → Source packages p include exclude (f ∷ fs) name
  later_source f fs name s = record { path = s.path; known = in_tail f fs s.path s.known; named = s.named; wants = s.wants }

  source_of : (paths : List (List ℕ)) (name : List ℕ) → Contains (glob paths packages p include exclude) name → Source packages p include exclude paths name
  source_of [] name k = absurd (none_in name (subst (λ (v : List (List ℕ)). Contains v name) (none_given packages p include exclude) k))
  source_of (f ∷ fs) name k = by_name (source_of fs name) (name_in packages p f) refl
    where
      by_name : (Contains (glob fs packages p include exclude) name → Source packages p include exclude fs name) → (v : Option (List ℕ)) → name_in packages p f ≡ v → Source packages p include exclude (f ∷ fs) name
      by_name later None e = later_source f fs name (later (subst (λ (v : List (List ℕ)). Contains v name) (unnamed packages p include exclude f fs e) k))
      by_name later (Some n) e = elim (cases_Bool (is_wanted include exclude n)) [
        | inl y ↦ elim (head_or_tail n (glob fs packages p include exclude) name (subst (λ (v : List (List ℕ)). Contains v name) (wanted packages p include exclude f fs n e y) k)) [
          | inl is ↦ record { path = f; known = at_head f fs; named = e ∙ ap (λ (t : List ℕ). Some t) is; wants = ap (is_wanted include exclude) (sym is) ∙ y }
          | inr there ↦ later_source f fs name (later there)
        ]
        | inr o ↦ later_source f fs name (later (subst (λ (v : List (List ℕ)). Contains v name) (unwanted packages p include exclude f fs n e o) k))
      ]

  from_source : (paths : List (List ℕ)) (name path : List ℕ) → Contains paths path → name_in packages p path ≡ Some name → is_wanted include exclude name ≡ true → Contains (glob paths packages p include exclude) name
  from_source [] name path k n w = absurd (none_in path k)
  from_source (f ∷ fs) name path k n w = elim (head_or_tail f fs path k) [
    | inl is ↦ subst (λ (v : List (List ℕ)). Contains v name) (sym (wanted packages p include exclude f fs name (ap (λ (t : List ℕ). name_in packages p t) is ∙ n) w)) (at_head name (glob fs packages p include exclude))
    | inr there ↦ kept f fs name (from_source fs name path there n w)
  ]
    where
      kept : (f : List ℕ) (fs : List (List ℕ)) (name : List ℕ) → Contains (glob fs packages p include exclude) name → Contains (glob (f ∷ fs) packages p include exclude) name
      kept f fs name k = by_name (name_in packages p f) refl
        where
          by_name : (v : Option (List ℕ)) → name_in packages p f ≡ v → Contains (glob (f ∷ fs) packages p include exclude) name
          by_name None e = subst (λ (v : List (List ℕ)). Contains v name) (sym (unnamed packages p include exclude f fs e)) k
          by_name (Some n) e = elim (cases_Bool (is_wanted include exclude n)) [
            | inl y ↦ subst (λ (v : List (List ℕ)). Contains v name) (sym (wanted packages p include exclude f fs n e y)) (in_tail n (glob fs packages p include exclude) name k)
            | inr o ↦ subst (λ (v : List (List ℕ)). Contains v name) (sym (unwanted packages p include exclude f fs n e o)) k
          ]

pub given_is : (paths : List (List ℕ)) (packages : List BuildFile) (p : PackageParts) (include exclude : List (List ℕ)) (name : List ℕ) → Contains (glob paths packages p include exclude) name ↔ IsGiven paths packages p include exclude name
given_is paths packages p include exclude name = (
  (λ k.
      let s = source_of packages p include exclude paths name k in
      let w = name_words packages p s.path name s.named in
      let i = wanted_words include exclude name s.wants in
      record {
        known = subst (λ (t : List ℕ). Contains paths t) w.0 s.known;
        owned = subst (IsOwned packages p) w.0 w.1;
        included = i.0;
        not_excluded = i.1;
      }),
  (λ g.
      let path : List ℕ = label_path (label_in p name) in
      from_source packages p include exclude paths name path g.known (words_name packages p path name refl g.owned) (words_wanted include exclude name g.included g.not_excluded)),
)

-- ---- in order

same_front : (d x y : List ℕ) → slice_cmp nat_cmp (d ++ x) (d ++ y) ≡ slice_cmp nat_cmp x y
same_front [] x y = refl
same_front (b ∷ bs) x y = rw (tied_itself nat_cmp_total b) (same_front bs x y)

module _ (packages : List BuildFile) (p : PackageParts) (include exclude : List (List ℕ)) where
  name_less : (f g : File) (n m : List ℕ) → name_in packages p f.path ≡ Some n → name_in packages p g.path ≡ Some m → path_cmp f g ≡ Less → slice_cmp nat_cmp n m ≡ Less
  name_less f g n m e h l =
      let first : f.path ≡ directory p ++ n = (name_words packages p f.path n e).0 ∙ directory_name p n in
      let second : g.path ≡ directory p ++ m = (name_words packages p g.path m h).0 ∙ directory_name p m in
      sym (same_front (directory p) n m) ∙ (ap (λ (t : List ℕ). slice_cmp nat_cmp t (directory p ++ m)) (sym first) ∙ (ap (λ (t : List ℕ). slice_cmp nat_cmp f.path t) (sym second) ∙ l))

  all_less : (f : File) (n : List ℕ) → name_in packages p f.path ≡ Some n → (fs : List File) → AllByRecursion (λ (g : File). path_cmp f g ≡ Less) fs → AllByRecursion (λ (m : List ℕ). slice_cmp nat_cmp n m ≡ Less) (glob (paths_of fs) packages p include exclude)
  all_less f n e [] a = subst (AllByRecursion (λ (m : List ℕ). slice_cmp nat_cmp n m ≡ Less)) (sym (none_given packages p include exclude)) tt
  all_less f n e (g ∷ gs) a = by_name (all_less f n e gs a.1) (name_in packages p g.path) refl
    where
      by_name : AllByRecursion (λ (m : List ℕ). slice_cmp nat_cmp n m ≡ Less) (glob (paths_of gs) packages p include exclude) → (v : Option (List ℕ)) → name_in packages p g.path ≡ v → AllByRecursion (λ (m : List ℕ). slice_cmp nat_cmp n m ≡ Less) (glob (g.path ∷ paths_of gs) packages p include exclude)
      by_name later None h = subst (AllByRecursion (λ (m : List ℕ). slice_cmp nat_cmp n m ≡ Less)) (sym (unnamed packages p include exclude g.path (paths_of gs) h)) later
      by_name later (Some m) h = elim (cases_Bool (is_wanted include exclude m)) [
        | inl y ↦ subst (AllByRecursion (λ (m : List ℕ). slice_cmp nat_cmp n m ≡ Less)) (sym (wanted packages p include exclude g.path (paths_of gs) m h y)) (name_less f g n m e h a.0, later)
        | inr o ↦ subst (AllByRecursion (λ (m : List ℕ). slice_cmp nat_cmp n m ≡ Less)) (sym (unwanted packages p include exclude g.path (paths_of gs) m h o)) later
      ]

  nothing_sorted : IsStrictlySortedBy (slice_cmp nat_cmp) []
  unfolding IsStrictlySortedBy
  nothing_sorted = tt

  more_sorted : (n : List ℕ) (ns : List (List ℕ)) → AllByRecursion (λ (m : List ℕ). slice_cmp nat_cmp n m ≡ Less) ns → IsStrictlySortedBy (slice_cmp nat_cmp) ns → IsStrictlySortedBy (slice_cmp nat_cmp) (n ∷ ns)
  unfolding IsStrictlySortedBy
  more_sorted n ns a s = (a, s)

  ascending : (files : List File) → IsStrictlySortedBy path_cmp files → IsStrictlySortedBy (slice_cmp nat_cmp) (glob (paths_of files) packages p include exclude)
  ascending [] s = subst (IsStrictlySortedBy (slice_cmp nat_cmp)) (sym (none_given packages p include exclude)) nothing_sorted
  ascending (f ∷ fs) s = by_name (ascending fs (sorted_tail path_cmp f fs s)) (name_in packages p f.path) refl
    where
      by_name : IsStrictlySortedBy (slice_cmp nat_cmp) (glob (paths_of fs) packages p include exclude) → (v : Option (List ℕ)) → name_in packages p f.path ≡ v → IsStrictlySortedBy (slice_cmp nat_cmp) (glob (f.path ∷ paths_of fs) packages p include exclude)
      by_name later None h = subst (IsStrictlySortedBy (slice_cmp nat_cmp)) (sym (unnamed packages p include exclude f.path (paths_of fs) h)) later
      by_name later (Some n) h = elim (cases_Bool (is_wanted include exclude n)) [
        | inl y ↦ subst (IsStrictlySortedBy (slice_cmp nat_cmp)) (sym (wanted packages p include exclude f.path (paths_of fs) n h y)) (more_sorted n (glob (paths_of fs) packages p include exclude) (all_less f n h fs (sorted_head path_cmp f fs s)) later)
        | inr o ↦ subst (IsStrictlySortedBy (slice_cmp nat_cmp)) (sym (unwanted packages p include exclude f.path (paths_of fs) n h o)) later
      ]

pub names_ascend : (files : List File) (packages : List BuildFile) (p : PackageParts) (include exclude : List (List ℕ)) → IsWorkspace files → IsStrictlySortedBy (slice_cmp nat_cmp) (glob (paths_of files) packages p include exclude)
names_ascend files packages p include exclude w = ascending packages p include exclude files w.ascending

-- ---- a path that is owned

over_name : (d rest : List ℕ) → (d ≡ []) ⊎ ((name : List ℕ) × (rest ≡ d ++ 47 ∷ name)) → (name : List ℕ) × (rest ≡ joined d name)
over_name [] rest o = (rest, refl)
over_name (b ∷ bs) rest (inl e) = absurd (cc)
over_name (b ∷ bs) rest (inr up) = (up.0, up.1)

none_owns : (packages : List BuildFile) (path : List ℕ) → split_repository path ≡ None → owner_of packages path ≡ None
unfolding owner_of
none_owns packages path h = rw h refl

path_of : (p : PackageParts) (name : List ℕ) → label_path (label_in p name) ≡ repository_root p.repo ++ joined p.package name
unfolding label_path
path_of p name = refl

has_name : (packages : List BuildFile) (p : PackageParts) (path : List ℕ) (b : BuildFile) → b.id ≡ p → owner_of packages path ≡ Some b → (v : Option (List ℕ × List ℕ)) → split_repository path ≡ v → HasName p path
has_name packages p path b i e None h = let none : None ≡ Some b = sym (none_owns packages path h) ∙ e in absurd (cc)
has_name packages p path b i e (Some q) h =
    let owner : IsOwner packages q.0 q.1 b = subst (OwnerIs packages q.0 q.1) e (owner_at packages path q.0 q.1 h) in
    let over = over_name b.id.package q.1 owner.over.above in
    let repo : q.0 ≡ p.repo = sym owner.over.repo_is ∙ ap (λ (k : PackageParts). k.repo) i in
    let rest : q.1 ≡ joined p.package over.0 = over.1 ∙ ap (λ (k : PackageParts). joined k.package over.0) i in
    record {
      name = over.0;
      whole = (in_repository path q.0 q.1 h).whole ∙ (ap (λ (r : List ℕ). repository_root r ++ q.1) repo ∙ (ap (λ (t : List ℕ). repository_root p.repo ++ t) rest ∙ sym (path_of p over.0)));
    }

pub owned_has_name : (packages : List BuildFile) (p : PackageParts) (path : List ℕ) → IsOwned packages p path → HasName p path
owned_has_name packages p path o = has_name packages p path o.owner o.id o.owns (split_repository path) refl
