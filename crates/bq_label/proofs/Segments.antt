-- Paths are joined of valid paths.
use Rattle.std.proofs.Common.{◌≡◌, ◌-◌, ◌++◌, ◌==◌, ◌&&◌, ◌||◌, ◌⊎◌, ℕ, Bool, true, false, List, [], ◌∷◌, length, take, refl, sym, ap, ◌∙◌, arith, length-append, inl, inr}
use Rattle.std.proofs.Math.Seq.{take-append_seam}
use Rattle.std.proofs.lemmas.Bool.{cases_Bool, false≢true}
use Rattle.std.proofs.lemmas.Bool.Decides.{nat_tests}
use Rattle.std.proofs.lemmas.List.Folds.{list_all-append}
use Rattle.std.specs.List.{list_all, list_any, slice_split}
use Rattle.bq_label.specs.Paths.{is_slash, is_path_byte, is_segment, is_path, is_package}
use Rattle.bq_label.specs.Label.{last_segment}
use Rattle.bq_label.specs.Packages.{directory_of, joined}
use Rattle.bq_label.proofs.Cuts.{last_whole}
use Rattle.bq_label.proofs.Readings.{first_of_two, second_of_two}

-- ---- at the last slash

-- a text without a slash, or a directory, a slash and the last segment
pub record LastCut (path : List ℕ) : Type 0 where
  pub directory : List ℕ
  pub name : List ℕ
  pub whole : path ≡ directory ++ 47 ∷ name
  pub plain : list_any is_slash name ≡ false

pub last_cut : (path : List ℕ) → (list_any is_slash path ≡ false) ⊎ LastCut path
last_cut [] = inl refl
last_cut (b ∷ bs) = elim (last_cut bs) [
  | inl none ↦ elim (cases_Bool (b == 47)) [
    | inl y ↦ inr (record { directory = []; name = bs; whole = ap (λ x. x ∷ bs) (is_47 b y); plain = none })
    | inr n ↦ inl (rw n none)
  ]
  | inr cut ↦ inr (record { directory = b ∷ cut.directory; name = cut.name; whole = ap (λ x. b ∷ x) cut.whole; plain = cut.plain })
]
  where
    is_47 : (b : ℕ) → (b == 47) ≡ true → b ≡ 47
    is_47 b y = grind (arith, nat_tests)

slash_in : (d n : List ℕ) → list_any is_slash (d ++ 47 ∷ n) ≡ true
slash_in [] n = refl
slash_in (b ∷ d) n = elim (cases_Bool (b == 47)) [ inl y ↦ rw y refl | inr o ↦ rw o (slash_in d n) ]

or_true : (b : Bool) → (b || true) ≡ true
or_true true = refl
or_true false = refl

pub last_joined : (d n : List ℕ) → last_segment (d ++ 47 ∷ n) ≡ last_segment n
unfolding last_segment
last_joined [] n = refl
last_joined (b ∷ d) n = rw (slash_in d n, or_true (b == 47)) (last_joined d n)

pub last_of_cut : (path : List ℕ) (c : LastCut path) → last_segment path ≡ c.name
last_of_cut path c = ap last_segment c.whole ∙ (last_joined c.directory c.name ∙ last_whole c.name c.plain)

pub directory_of_cut : (path : List ℕ) (c : LastCut path) → directory_of path ≡ c.directory
unfolding directory_of
directory_of_cut path c =
    let count : length path - length (last_segment path) - 1 ≡ length c.directory = omega (arith, ap length c.whole, length-append c.directory (47 ∷ c.name), ap length (last_of_cut path c)) in
    ap (λ (k : ℕ). take k path) count ∙ (ap (λ (t : List ℕ). take (length c.directory) t) c.whole ∙ take-append_seam c.directory (47 ∷ c.name))

pub directory_of_plain : (path : List ℕ) → list_any is_slash path ≡ false → directory_of path ≡ []
unfolding directory_of
directory_of_plain path h =
    let none : length path - length (last_segment path) - 1 ≡ 0 = omega (arith, ap length (last_whole path h)) in
    ap (λ (k : ℕ). take k path) none

-- ---- joined paths

parts_of : (xs : List ℕ) → (p : List ℕ) × (ps : List (List ℕ)) × (slice_split is_slash xs ≡ p ∷ ps)
parts_of [] = ([], [], refl)
parts_of (b ∷ bs) = elim (cases_Bool (b == 47)) [
  | inl y ↦ ([], slice_split is_slash bs, rw y refl)
  | inr n ↦ let f = parts_of bs in (b ∷ f.0, f.1, rw (n, f.2) refl)
]

pub split_joined : (xs ys : List ℕ) → slice_split is_slash (xs ++ 47 ∷ ys) ≡ slice_split is_slash xs ++ slice_split is_slash ys
split_joined [] ys = refl
split_joined (b ∷ bs) ys = elim (cases_Bool (b == 47)) [
  | inl y ↦ rw (y, split_joined bs ys) refl
  | inr n ↦ let f = parts_of bs in rw (n, split_joined bs ys, f.2) refl
]

pub two_true : (a b : Bool) → a ≡ true → b ≡ true → (a && b) ≡ true
two_true a b h k = rw (h, k) refl

pub path_joined : (d n : List ℕ) → is_path (d ++ 47 ∷ n) ≡ true → (is_path d ≡ true) × (is_path n ≡ true)
unfolding is_path
path_joined d n h =
    let whole : List ℕ = d ++ 47 ∷ n in
    let bd : Bool = list_all is_path_byte d in
    let bn : Bool = list_all is_path_byte n in
    let sd : Bool = list_all is_segment (slice_split is_slash d) in
    let sn : Bool = list_all is_segment (slice_split is_slash n) in
    let bytes : (bd && bn) ≡ true = sym (list_all-append is_path_byte d (47 ∷ n)) ∙ first_of_two (list_all is_path_byte whole) (list_all is_segment (slice_split is_slash whole)) h in
    let segments : (sd && sn) ≡ true =
    sym (list_all-append is_segment (slice_split is_slash d) (slice_split is_slash n)) ∙ (sym (ap (list_all is_segment) (split_joined d n)) ∙ second_of_two (list_all is_path_byte whole) (list_all is_segment (slice_split is_slash whole)) h) in
    (two_true bd sd (first_of_two bd bn bytes) (first_of_two sd sn segments), two_true bn sn (second_of_two bd bn bytes) (second_of_two sd sn segments))

path_some : (d : List ℕ) → is_path d ≡ true → (n : List ℕ) → joined d n ≡ d ++ 47 ∷ n
unfolding is_path
path_some [] h n = absurd (false≢true h)
path_some (b ∷ bs) h n = refl

package_path : (d : List ℕ) → is_path d ≡ true → is_package d ≡ true
unfolding is_package
package_path d h = rw h (or_true _)

-- a path's directory is valid, and joined with the last segment it is the path
pub record Joins (path : List ℕ) : Type 0 where
  pub whole : path ≡ joined (directory_of path) (last_segment path)
  pub valid : is_package (directory_of path) ≡ true

root_valid : is_package [] ≡ true
unfolding is_package
root_valid = refl

pub joins : (path : List ℕ) → is_path path ≡ true → Joins path
joins path h = elim (last_cut path) [
  | inl none ↦
      let at : directory_of path ≡ [] = directory_of_plain path none in
      record {
        whole = sym (last_whole path none) ∙ ap (λ (d : List ℕ). joined d (last_segment path)) (sym at);
        valid = ap is_package at ∙ root_valid;
      }
  | inr c ↦
      let f = path_joined c.directory c.name (sym (ap is_path c.whole) ∙ h) in
      let at : directory_of path ≡ c.directory = directory_of_cut path c in
      record {
        whole = c.whole ∙ (sym (path_some c.directory f.0 c.name) ∙ (ap (λ (d : List ℕ). joined d c.name) (sym at) ∙ ap (λ (n : List ℕ). joined (directory_of path) n) (sym (last_of_cut path c))));
        valid = ap is_package at ∙ package_path c.directory f.0;
      }
]
