-- Names without a slash in one directory have one owner.
use Rattle.std.proofs.Common.{◌≡◌, ◌++◌, ◌&&◌, ◌||◌, ◌==◌, ℕ, Bool, true, false, not, List, [], ◌∷◌, Option, Some, None, length, drop, codes, refl, sym, ap, ◌∙◌, append_assoc, arith, inl, inr, nat_eq}
use Rattle.std.proofs.lemmas.Bool.{cases_Bool, false≢true}
use Rattle.std.proofs.lemmas.Bool.Decides.{nat_tests}
use Rattle.std.specs.Prelude.{option_and_then}
use Rattle.std.specs.Str.{bytes_eq}
use Rattle.std.specs.List.{starts_with, list_any, filter}
use Rattle.bq_label.specs.declared.packages.BuildFile.{BuildFile}
use Rattle.bq_label.specs.Paths.{is_repository, is_slash, HasNoSlash}
use Rattle.bq_label.specs.Label.{PackageParts, label_in}
use Rattle.bq_label.specs.Reading.{split_once}
use Rattle.bq_label.specs.Workspace.{is_above}
use Rattle.bq_label.specs.Packages.{label_path, external_root, split_repository, is_over, nearest, nearest_over, owner_of}
use Rattle.bq_label.proofs.Cases.{split_repository_by}

-- a name in a directory, or at the root
abbrev under : Option (List ℕ) → List ℕ → List ℕ
under None name = name
under (Some e) name = e ++ 47 ∷ name

-- ---- tests

first_false : (a b : Bool) → (a || b) ≡ false → a ≡ false
first_false false b h = refl
first_false true b h = absurd (false≢true (sym h))

second_false : (a b : Bool) → (a || b) ≡ false → b ≡ false
second_false false b h = h
second_false true b h = absurd (false≢true (sym h))

and_false : (a : Bool) → (a && false) ≡ false
and_false true = refl
and_false false = refl

and_right : (a b : Bool) → (a && b) ≡ true → b ≡ true
and_right true b h = h
and_right false b h = absurd (false≢true h)

no_slash : (b : ℕ) → (b == 47) ≡ false → nat_eq 47 b ≡ false
no_slash b h = grind (arith, nat_tests)

-- ---- what a path begins with

-- a name without a slash doesn't begin with a directory
no_front : (p name : List ℕ) → HasNoSlash name → starts_with nat_eq name (p ++ 47 ∷ []) ≡ false
no_front [] [] h = refl
no_front (c ∷ cs) [] h = refl
no_front [] (b ∷ bs) h = rw (no_slash b (first_false (b == 47) (list_any is_slash bs) h)) refl
no_front (c ∷ cs) (b ∷ bs) h = rw (no_front cs bs (second_false (b == 47) (list_any is_slash bs) h)) (and_false (nat_eq c b))

module _ (n m : List ℕ) (no_n : HasNoSlash n) (no_m : HasNoSlash m) where
  -- names in one directory begin with the same directories
  same_front : (p e : List ℕ) → starts_with nat_eq (e ++ 47 ∷ n) (p ++ 47 ∷ []) ≡ starts_with nat_eq (e ++ 47 ∷ m) (p ++ 47 ∷ [])
  same_front [] [] = refl
  same_front [] (x ∷ xs) = refl
  same_front (c ∷ cs) [] = rw (no_front cs n no_n, no_front cs m no_m) refl
  same_front (c ∷ cs) (x ∷ xs) = ap (λ (b : Bool). nat_eq c x && b) (same_front cs xs)

  fronts : (p : List ℕ) (d : Option (List ℕ)) → starts_with nat_eq (under d n) (p ++ 47 ∷ []) ≡ starts_with nat_eq (under d m) (p ++ 47 ∷ [])
  fronts p None = no_front p n no_n ∙ sym (no_front p m no_m)
  fronts p (Some e) = same_front p e

  -- so the same packages are over them
  over : (repo : List ℕ) (d : Option (List ℕ)) (b : BuildFile) → is_over repo (under d n) b ≡ is_over repo (under d m) b
  unfolding is_above
  over repo d b = ap (λ (t : Bool). bytes_eq b.id.repo repo && (bytes_eq b.id.package [] || t)) (fronts b.id.package d)

  over_all : (repo : List ℕ) (d : Option (List ℕ)) (packages : List BuildFile) → filter (is_over repo (under d n)) packages ≡ filter (is_over repo (under d m)) packages
  over_all repo d [] = refl
  over_all repo d (b ∷ bs) = rw (over repo d b, over_all repo d bs) refl

  pub nearest_same : (packages : List BuildFile) (repo : List ℕ) (d : Option (List ℕ)) → nearest_over packages repo (under d n) ≡ nearest_over packages repo (under d m)
  unfolding nearest_over
  nearest_same packages repo d = ap nearest (over_all repo d packages)

  -- ---- the repository

  none_split : (name : List ℕ) → HasNoSlash name → split_once 47 name ≡ None
  unfolding split_once
  none_split [] h = refl
  none_split (b ∷ bs) h = rw (first_false (b == 47) (list_any is_slash bs) h, none_split bs (second_false (b == 47) (list_any is_slash bs) h)) refl

-- a path cut at its first slash: the rest is in one directory, whatever the name
record Split (e : List ℕ) : Type 0 where
  first : List ℕ
  rest : Option (List ℕ)
  is : (name : List ℕ) → split_once 47 (e ++ 47 ∷ name) ≡ Some (first, under rest name)

split : (e : List ℕ) → Split e
unfolding split_once
split [] = record { first = []; rest = None; is = λ name. refl }
split (x ∷ xs) = elim (cases_Bool (x == 47)) [
  | inl y ↦ record { first = []; rest = Some xs; is = λ name. rw y refl }
  | inr n ↦ let s = split xs in record { first = x ∷ s.first; rest = s.rest; is = λ name. rw (n, s.is name) refl }
]

-- a path that begins with a directory goes on in one, whatever the name
record Below (p e : List ℕ) : Type 0 where
  rest : Option (List ℕ)
  is : (name : List ℕ) → drop (length (p ++ 47 ∷ [])) (e ++ 47 ∷ name) ≡ under rest name

below : (p e n : List ℕ) → HasNoSlash n → starts_with nat_eq (e ++ 47 ∷ n) (p ++ 47 ∷ []) ≡ true → Below p e
below [] [] n plain h = record { rest = None; is = λ name. refl }
below [] (x ∷ xs) n plain h = record { rest = Some xs; is = λ name. refl }
below (c ∷ cs) [] n plain h = absurd (false≢true (sym (no_front cs n plain) ∙ and_right (nat_eq c 47) (starts_with nat_eq n (cs ++ 47 ∷ [])) h))
below (c ∷ cs) (x ∷ xs) n plain h =
    let b = below cs xs n plain (and_right (nat_eq c x) (starts_with nat_eq (xs ++ 47 ∷ n) (cs ++ 47 ∷ [])) h) in
    record { rest = b.rest; is = λ name. b.is name }

module _ (packages : List BuildFile) (n m : List ℕ) (no_n : HasNoSlash n) (no_m : HasNoSlash m) where
  abbrev owner_at : Option (List ℕ × List ℕ) → Option BuildFile
  owner_at found = option_and_then (λ h. nearest_over packages h.0 h.1) found

  in_repository : (r : List ℕ) (d : Option (List ℕ)) → owner_at (split_repository_by (Some (r, under d n))) ≡ owner_at (split_repository_by (Some (r, under d m)))
  in_repository r d = elim (cases_Bool (not (bytes_eq r []) && is_repository r)) [
    | inl y ↦ rw y (nearest_same n m no_n no_m packages r d)
    | inr other ↦ rw other refl
  ]

  in_external : (d : Option (List ℕ)) → owner_at (split_repository_by (split_once 47 (under d n))) ≡ owner_at (split_repository_by (split_once 47 (under d m)))
  in_external None = rw (none_split n m no_n no_m n no_n, none_split n m no_n no_m m no_m) refl
  in_external (Some e) = let s = split e in rw (s.is n, s.is m) (in_repository s.first s.rest)

  pub owner_under : (d : Option (List ℕ)) → owner_of packages (under d n) ≡ owner_of packages (under d m)
  unfolding owner_of split_repository
  owner_under None = rw (no_front (codes "external") n no_n, no_front (codes "external") m no_m) (nearest_same n m no_n no_m packages [] None)
  owner_under (Some e) = elim (cases_Bool (starts_with nat_eq (e ++ 47 ∷ n) external_root)) [
    | inl y ↦
        let z : starts_with nat_eq (e ++ 47 ∷ m) external_root ≡ true = sym (same_front n m no_n no_m (codes "external") e) ∙ y in
        let b = below (codes "external") e n no_n y in
        rw (y, z, b.is n, b.is m) (in_external b.rest)
    | inr other ↦
        let none : starts_with nat_eq (e ++ 47 ∷ m) external_root ≡ false = sym (same_front n m no_n no_m (codes "external") e) ∙ other in
        rw (other, none) (nearest_same n m no_n no_m packages [] (Some e))
  ]

-- ---- the path of a label

record Directory (own : PackageParts) : Type 0 where
  at : Option (List ℕ)
  is : (name : List ℕ) → label_path (label_in own name) ≡ under at name

directory_by : (repo path : List ℕ) → Directory (record { repo = repo; «package» = path })
unfolding label_path
directory_by [] [] = record { at = None; is = λ name. refl }
directory_by [] (c ∷ cs) = record { at = Some (c ∷ cs); is = λ name. refl }
directory_by (b ∷ bs) [] = record { at = Some (codes "external/" ++ (b ∷ bs)); is = λ name. append_assoc (codes "external/" ++ (b ∷ bs)) (47 ∷ []) name }
directory_by (b ∷ bs) (c ∷ cs) = record {
  at = Some (codes "external/" ++ ((b ∷ bs ++ codes "/") ++ (c ∷ cs)));
  is = λ name. sym (append_assoc (codes "external/" ++ (b ∷ bs ++ codes "/")) (c ∷ cs) (47 ∷ name));
}

pub short_names : (packages : List BuildFile) (own : PackageParts) (n m : List ℕ) → HasNoSlash n → HasNoSlash m
    → owner_of packages (label_path (label_in own n)) ≡ owner_of packages (label_path (label_in own m))
short_names packages own n m no_n no_m =
    let d = directory_by own.repo own.package in
    ap (owner_of packages) (d.is n) ∙ owner_under packages n m no_n no_m d.at ∙ sym (ap (owner_of packages) (d.is m))
