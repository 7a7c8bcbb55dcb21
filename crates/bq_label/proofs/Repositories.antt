-- A path in its repository is after the repository's root, and names its BUILD file's package.
use Rattle.std.proofs.Common.{◌≡◌, ◌++◌, ◌&&◌, ℕ, Bool, true, false, not, List, [], ◌∷◌, Option, Some, None, take, drop, codes, refl, sym, ap, ◌∙◌, append_assoc, inl, inr, nat_eq}
use Rattle.std.proofs.lemmas.Bool.{cases_Bool, false≢true}
use Rattle.std.proofs.lemmas.List.{take-append-drop}
use Rattle.std.specs.Str.{bytes_eq}
use Rattle.std.specs.List.{starts_with}
use Rattle.bq_label.specs.Paths.{is_path, is_repository}
use Rattle.bq_label.specs.Label.{last_segment}
use Rattle.bq_label.specs.Reading.{split_once}
use Rattle.bq_label.specs.Packages.{repository_root, external_root, split_repository}
use Rattle.bq_label.proofs.Cases.{split_repository_by}
use Rattle.bq_label.proofs.Cuts.{cut_whole}
use Rattle.bq_label.proofs.Readings.{first_of_two, second_of_two}
use Rattle.bq_label.proofs.Above.{same_bytes}
use Rattle.bq_label.proofs.Segments.{last_joined, path_joined}

-- what is known of the repository of a path
pub record InRepository (path repo rest : List ℕ) : Type 0 where
  pub whole : path ≡ repository_root repo ++ rest
  pub valid : is_repository repo ≡ true
  pub valid_rest : is_path path ≡ true → is_path rest ≡ true
  pub last : last_segment path ≡ last_segment rest

main_valid : is_repository [] ≡ true
unfolding is_repository
main_valid = refl

pub some_parts : {p q : List ℕ × List ℕ} → Some p ≡ Some q → p ≡ q
some_parts e = cc

pub external_front : (path : List ℕ) → starts_with nat_eq path external_root ≡ true → path ≡ codes "external/" ++ drop 9 path
external_front path h = sym (take-append-drop 9 path) ∙ ap (λ (t : List ℕ). t ++ drop 9 path) (sym (same_bytes external_root (take 9 path) h))

root_of : (r rest : List ℕ) → bytes_eq r [] ≡ false → codes "external/" ++ (r ++ 47 ∷ rest) ≡ repository_root r ++ rest
root_of [] rest h = absurd (false≢true (sym h))
root_of (b ∷ bs) rest h = ap (λ (t : List ℕ). codes "external/" ++ t) (sym (append_assoc (b ∷ bs) (47 ∷ []) rest))

external_repository : (path below : List ℕ) (v : Option (List ℕ × List ℕ)) (r rest : List ℕ) → path ≡ codes "external/" ++ below → split_once 47 below ≡ v → split_repository_by v ≡ Some (r, rest) → InRepository path r rest
external_repository path below None r rest e c h = absurd (cc)
external_repository path below (Some p) r rest e c h = elim (cases_Bool (not (bytes_eq p.0 []) && is_repository p.0)) [
  | inl y ↦
      let is : p ≡ (r, rest) = some_parts (sym (rw y refl) ∙ h) in
      let name : p.0 ≡ r = ap (λ (q : List ℕ × List ℕ). q.0) is in
      let some : bytes_eq r [] ≡ false = not_false (bytes_eq r []) (sym (ap (λ (t : List ℕ). not (bytes_eq t [])) name) ∙ first_of_two (not (bytes_eq p.0 [])) (is_repository p.0) y) in
      let cut : below ≡ r ++ 47 ∷ rest = cut_whole 47 below p c ∙ ap (λ (q : List ℕ × List ℕ). q.0 ++ 47 ∷ q.1) is in
      let whole : path ≡ codes "external" ++ 47 ∷ (r ++ 47 ∷ rest) = e ∙ ap (λ (t : List ℕ). codes "external/" ++ t) cut in
      record {
        whole = whole ∙ root_of r rest some;
        valid = sym (ap is_repository name) ∙ second_of_two (not (bytes_eq p.0 [])) (is_repository p.0) y;
        valid_rest = λ valid. (path_joined r rest (path_joined (codes "external") (r ++ 47 ∷ rest) (sym (ap is_path whole) ∙ valid)).1).1;
        last = ap last_segment whole ∙ (last_joined (codes "external") (r ++ 47 ∷ rest) ∙ last_joined r rest);
      }
  | inr n ↦ let none : None ≡ Some (r, rest) = sym (rw n refl) ∙ h in absurd (cc)
]
  where
    not_false : (b : Bool) → not b ≡ true → b ≡ false
    not_false true h = absurd (false≢true h)
    not_false false h = refl

pub in_repository : (path r rest : List ℕ) → split_repository path ≡ Some (r, rest) → InRepository path r rest
unfolding split_repository
in_repository path r rest h = elim (cases_Bool (starts_with nat_eq path external_root)) [
  | inl y ↦ external_repository path (drop 9 path) (split_once 47 (drop 9 path)) r rest (external_front path y) refl (sym (rw y refl) ∙ h)
  | inr n ↦
      let is : ([], path) ≡ (r, rest) = some_parts (sym (rw n refl) ∙ h) in
      let repo : [] ≡ r = ap (λ (q : List ℕ × List ℕ). q.0) is in
      let there : path ≡ rest = ap (λ (q : List ℕ × List ℕ). q.1) is in
      record {
        whole = there ∙ ap (λ (t : List ℕ). repository_root t ++ rest) repo;
        valid = sym (ap is_repository repo) ∙ main_valid;
        valid_rest = λ valid. sym (ap is_path there) ∙ valid;
        last = ap last_segment there;
      }
]
