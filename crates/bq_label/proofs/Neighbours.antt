-- Where a path parts from the one before it in order is the only place at which a file can be above it.
use Rattle.std.proofs.Common.{◌≡◌, ◌≢◌, ◌+◌, ◌<◌, ◌≤◌, ◌==◌, ◌&&◌, ℕ, zero, suc, Bool, true, false, not, List, [], ◌∷◌, Option, Some, None, length, take, drop, get_or, slice_index, refl, sym, ap, subst, ◌∙◌, arith, inl, inr, nat_lt}
use Rattle.std.proofs.lemmas.Bool.{cases_Bool, cases_lt, false≢true}
use Rattle.std.proofs.lemmas.Bool.Decides.{nat_tests}
use Rattle.std.specs.Option.{is_some}
use Rattle.std.specs.Str.{bytes_eq}
use Rattle.std.specs.List.{list_all, list_any}
use Rattle.std.specs.List.Sorted.{IsStrictlySortedBy}
use Rattle.std.specs.Ordering.{nat_cmp, ordering_then, ordering_reverse}
use Rattle.std.specs.Cmp.Lexicographic.{slice_cmp}
use Rattle.std.specs.declared.cmp.Ordering.{Ordering}
use Rattle.std.specs.declared.cmp.Ordering.TheVariants.{Less, Equal, Greater}
use Rattle.std.proofs.lemmas.Cmp.{nat_cmp_total, tied_itself}
use Rattle.std.proofs.lemmas.Map.Keys.{Less-from_sorted}
use Rattle.bq_label.specs.declared.workspace.File.{File}
use Rattle.bq_label.specs.Paths.{common_len}
use Rattle.bq_label.specs.Workspace.{is_above, are_apart, paths_of, path_cmp, file_at, parts_at_file}
use Rattle.bq_label.proofs.Above.{same_bytes}
use Rattle.bq_label.proofs.Readings.{first_of_two, second_of_two}
use Rattle.bq_label.proofs.Searches.{find_none}
use Rattle.bq_label.proofs.Workspaces.{by_path, same_default, above_found, above_none}

-- ---- two texts and their common beginning

tied : (x y : ℕ) → (x == y) ≡ true → nat_cmp x y ≡ Equal
tied x y h = let same : x ≡ y = grind (arith, nat_tests) in subst (λ (z : ℕ). nat_cmp x z ≡ Equal) same (tied_itself nat_cmp_total x)

same_from_tied : (x y : ℕ) → nat_cmp x y ≡ Equal → x ≡ y
same_from_tied x y h = grind (arith, nat_tests)

not_tied : (x y : ℕ) → (x == y) ≡ false → nat_cmp x y ≢ Equal
not_tied x y n e = let same : x ≡ y = same_from_tied x y e in let yes : (x == y) ≡ true = grind (arith, nat_tests) in false≢true (sym n ∙ yes)

pub first_decides : (o a b : Ordering) → o ≢ Equal → ordering_then o a ≡ Less → ordering_then o b ≡ Less
first_decides Less a b n h = refl
first_decides Equal a b n h = absurd (n refl)
first_decides Greater a b n h = h

-- the place k is in the common beginning
record IsShared (xs ys : List ℕ) (k : ℕ) : Type 0 where
  room : k < length xs
  front : take k ys ≡ take k xs
  byte : slice_index xs k ≡ slice_index ys k

shared_more : (x y : ℕ) (xs ys : List ℕ) (n k : ℕ) → x ≡ y → k < suc n → ((j : ℕ) → j < n → IsShared xs ys j) → IsShared (x ∷ xs) (y ∷ ys) k
shared_more x y xs ys n zero e l f = record { room = omega arith; front = refl; byte = e }
shared_more x y xs ys n (suc k) e l f =
    let r = f k (omega arith) in
    record {
      room = omega (arith, r.room);
      front = ap (λ (t : List ℕ). y ∷ t) r.front ∙ ap (λ (b : ℕ). b ∷ take k xs) (sym e);
      byte = r.byte;
    }

shared : (xs ys : List ℕ) (k : ℕ) → k < common_len xs ys → IsShared xs ys k
unfolding common_len
shared [] ys k l = absurd (omega arith)
shared (x ∷ xs) [] k l = absurd (omega arith)
shared (x ∷ xs) (y ∷ ys) k l = elim (cases_Bool (x == y)) [
  | inl e ↦
      let same : x ≡ y = grind (arith, nat_tests) in
      let more : k < suc (common_len xs ys) = rw e at l in
      shared_more x y xs ys (common_len xs ys) k same more (λ j h. shared xs ys j h)
  | inr n ↦ let none : k < 0 = rw n at l in absurd (omega arith)
]

-- where one text ends, or they differ, nothing more is common
pub stops : (xs ys : List ℕ) (i : ℕ) → (i < length ys → slice_index xs i ≡ slice_index ys i → ⊥) → common_len (drop i xs) (drop i ys) ≡ 0
unfolding common_len
stops [] ys zero n = refl
stops (x ∷ xs) [] zero n = refl
stops (x ∷ xs) (y ∷ ys) zero n = elim (cases_Bool (x == y)) [
  | inl e ↦ let same : x ≡ y = grind (arith, nat_tests) in absurd (n (omega arith) same)
  | inr d ↦ rw d refl
]
stops [] ys (suc i) n = refl
stops (x ∷ xs) [] (suc i) n = none (drop i xs)
  where
    none : (zs : List ℕ) → common_len zs [] ≡ 0
    none [] = refl
    none (z ∷ zs) = refl
stops (x ∷ xs) (y ∷ ys) (suc i) n = stops xs ys i (λ l e. n (omega arith) e)

-- a longer beginning of the greater text is greater too
pub below_longer : (xs ys : List ℕ) (k : ℕ) → slice_cmp nat_cmp xs ys ≡ Less → common_len xs ys < k → k ≤ length ys → slice_cmp nat_cmp xs (take k ys) ≡ Less
unfolding common_len
below_longer xs ys zero s l b = absurd (omega arith)
below_longer [] [] (suc k) s l b = absurd (omega arith)
below_longer [] (y ∷ ys) (suc k) s l b = refl
below_longer (x ∷ xs) [] (suc k) s l b = absurd (omega arith)
below_longer (x ∷ xs) (y ∷ ys) (suc k) s l b = elim (cases_Bool (x == y)) [
  | inl e ↦
      let equal : nat_cmp x y ≡ Equal = tied x y e in
      let longer : suc (common_len xs ys) < suc k = rw e at l in
      let less : slice_cmp nat_cmp xs ys ≡ Less = sym (ap (λ (o : Ordering). ordering_then o (slice_cmp nat_cmp xs ys)) equal) ∙ s in
      ap (λ (o : Ordering). ordering_then o (slice_cmp nat_cmp xs (take k ys))) equal ∙ below_longer xs ys k less (omega arith) (omega arith)
  | inr n ↦ first_decides (nat_cmp x y) (slice_cmp nat_cmp xs ys) (slice_cmp nat_cmp xs (take k ys)) (not_tied x y n) s
]

pub below_whole : (ys : List ℕ) (k : ℕ) → k < length ys → slice_cmp nat_cmp (take k ys) ys ≡ Less
below_whole [] k l = absurd (omega arith)
below_whole (y ∷ ys) zero l = refl
below_whole (y ∷ ys) (suc k) l = ap (λ (o : Ordering). ordering_then o (slice_cmp nat_cmp (take k ys) ys)) (tied_itself nat_cmp_total y) ∙ below_whole ys k (omega arith)

-- ---- the files

module _ (files : List File) (s : IsStrictlySortedBy path_cmp files) where
  place_below : (m i : ℕ) (d : File) → m < length files → i < length files → path_cmp (get_or files m d) (get_or files i d) ≡ Less → m < i
  place_below m i d a b l = elim (cases_lt m i) [
    | inl below ↦ below
    | inr above ↦ elim (cases_lt i m) [
      | inl less ↦
          let back : path_cmp (get_or files i d) (get_or files m d) ≡ Less = Less-from_sorted path_cmp files i m d s less a in
          let no : Less ≡ Greater = sym l ∙ (by_path.antisymm (get_or files m d) (get_or files i d) ∙ ap ordering_reverse back) in
          absurd (cc)
      | inr other ↦
          let one : m ≡ i = omega arith in
          let same : path_cmp (get_or files m d) (get_or files i d) ≡ Equal = ap (λ (n : ℕ). path_cmp (get_or files n d) (get_or files i d)) one ∙ tied_itself by_path (get_or files i d) in
          let no : Less ≡ Equal = sym l ∙ same in
          absurd (cc)
    ]
  ]

  no_file_at : (path : List ℕ) (e : File) → ((m : ℕ) → m < length files → (get_or files m e).path ≡ path → ⊥) → file_at files path ≡ None
  unfolding file_at
  no_file_at path e none = find_none (λ f. bytes_eq f.path path) files (λ m d l. elim (cases_Bool (bytes_eq ((get_or files m d).path) path)) [
    | inl y ↦ absurd (none m l (ap (λ (f : File). f.path) (same_default files m e d l) ∙ same_bytes ((get_or files m d).path) path y))
    | inr n ↦ n
  ])

  -- a file at a beginning of a path comes before the path
  before : (i : ℕ) (d : File) → i < length files → (k : ℕ) → k < length ((get_or files i d).path) → (m : ℕ) → m < length files → (get_or files m d).path ≡ take k ((get_or files i d).path) → m < i
  before i d l k b m h is = place_below m i d h l (subst (λ (t : List ℕ). slice_cmp nat_cmp t ((get_or files i d).path) ≡ Less) (sym is) (below_whole ((get_or files i d).path) k b))

  fork_free : (a path : List ℕ) → parts_at_file files a path ≡ false → common_len a path < length path → slice_index path (common_len a path) ≡ 47 → file_at files (take (common_len a path) path) ≡ None
  unfolding parts_at_file
  fork_free a path h l e =
      let room : nat_lt (common_len a path) (length path) ≡ true = grind (arith, nat_tests) in
      let slash : (slice_index path (common_len a path) == 47) ≡ true = grind (arith, nat_tests) in
      none_from (file_at files (take (common_len a path) path)) (sym (rw (room, slash) refl) ∙ h)
    where
      none_from : (v : Option File) → is_some v ≡ false → v ≡ None
      none_from None e = refl
      none_from (Some f) e = absurd (false≢true (sym e))

  module _ (d : File) (free : (k : ℕ) → k + 1 < length files → parts_at_file files ((get_or files k d).path) ((get_or files (k + 1) d).path) ≡ false) where
    none_above : (i : ℕ) → i < length files → (k : ℕ) → k < length ((get_or files i d).path) → slice_index ((get_or files i d).path) k ≡ 47 → file_at files (take k ((get_or files i d).path)) ≡ None
    none_above zero l k b e = no_file_at (take k ((get_or files 0 d).path)) d (λ m h is. absurd (omega (arith, before 0 d l k b m h is)))
    none_above (suc j) l k b e =
        let a : List ℕ = (get_or files j d).path in
        let p : List ℕ = (get_or files (suc j) d).path in
        elim (cases_lt k (common_len a p)) [
          | inl front ↦
              let f = shared a p k front in
              ap (file_at files) f.front ∙ none_above j (omega arith) k f.room (f.byte ∙ e)
          | inr other ↦ elim (cases_lt (common_len a p) k) [
            | inl longer ↦
                let adjacent : slice_cmp nat_cmp a p ≡ Less = Less-from_sorted path_cmp files j (suc j) d s (omega arith) l in
                no_file_at (take k p) d (λ m h is.
                let upper : m < suc j = before (suc j) d l k b m h is in
                let lower : j < m = place_below j m d (omega arith) h (subst (λ (t : List ℕ). slice_cmp nat_cmp a t ≡ Less) (sym is) (below_longer a p k adjacent longer (omega arith))) in
                absurd (omega arith))
            | inr fork ↦
                let at : common_len a p ≡ k = omega arith in
                let next : j + 1 ≡ suc j = omega arith in
                let none : parts_at_file files a p ≡ false = subst (λ (n : ℕ). parts_at_file files a ((get_or files n d).path) ≡ false) next (free j (omega arith)) in
                let slash : slice_index p (common_len a p) ≡ 47 = ap (λ (n : ℕ). slice_index p n) at ∙ e in
                ap (λ (n : ℕ). file_at files (take n p)) (sym at) ∙ fork_free a p none (omega arith) slash
          ]
        ]

all_at : (q : List ℕ → Bool) (fs : List File) → ((i : ℕ) (d : File) → i < length fs → q ((get_or fs i d).path) ≡ true) → list_all q (paths_of fs) ≡ true
all_at q [] h = refl
all_at q (f ∷ fs) h = rw (h 0 f (omega arith)) (all_at q fs (λ i d l. h (suc i) d (omega arith)))

not_all_at : (q : List ℕ → Bool) (fs : List File) (i : ℕ) (d : File) → i < length fs → q ((get_or fs i d).path) ≡ false → list_all q (paths_of fs) ≡ false
not_all_at q [] i d l h = absurd (omega arith)
not_all_at q (f ∷ fs) zero d l h = rw h refl
not_all_at q (f ∷ fs) (suc i) d l h = rw (not_all_at q fs i d (omega arith) h) (no_more (q f.path))
  where
    no_more : (b : Bool) → (b && false) ≡ false
    no_more true = refl
    no_more false = refl

-- no path parts from the one before it at a file
pub apart : (files : List File) → IsStrictlySortedBy path_cmp files → ((k : ℕ) (d : File) → k + 1 < length files → parts_at_file files ((get_or files k d).path) ((get_or files (k + 1) d).path) ≡ false) → are_apart (paths_of files) ≡ true
unfolding are_apart
apart files s free = all_at (λ p. not (list_any (λ d. is_above d p) (paths_of files))) files (λ i d l.
    ap not (above_none files ((get_or files i d).path) (λ k b e. none_above files s d (λ j h. free j d h) i l k b e)))

-- a path parts from another at a file
pub not_apart : (files : List File) (a : List ℕ) (i : ℕ) (d : File) → i < length files → parts_at_file files a ((get_or files i d).path) ≡ true → are_apart (paths_of files) ≡ false
unfolding are_apart parts_at_file
not_apart files a i d l h =
    let p : List ℕ = (get_or files i d).path in
    let n : ℕ = common_len a p in
    let both : (nat_lt n (length p) && slice_index p n == 47) ≡ true = first_of_two (nat_lt n (length p) && slice_index p n == 47) (is_some (file_at files (take n p))) h in
    let test : nat_lt n (length p) ≡ true = first_of_two (nat_lt n (length p)) (slice_index p n == 47) both in
    let room : n < length p = grind (arith, nat_tests) in
    let byte : (slice_index p n == 47) ≡ true = second_of_two (nat_lt n (length p)) (slice_index p n == 47) both in
    let slash : slice_index p n ≡ 47 = grind (arith, nat_tests) in
    not_all_at (λ q. not (list_any (λ e. is_above e q) (paths_of files))) files i d l
    (ap not (above_found files p n room slash (second_of_two (nat_lt n (length p) && slice_index p n == 47) (is_some (file_at files (take n p))) h)))
