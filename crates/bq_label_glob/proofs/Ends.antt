-- The last segment of a pattern takes the last segment of a path.
use Rattle.std.proofs.Common.{◌≡◌, ◌+◌, ◌<◌, ◌++◌, ◌&&◌, ◌||◌, ℕ, zero, suc, Bool, true, false, not, List, [], ◌∷◌, Option, Some, None, is_none, length, take, drop, slice_index, refl, sym, ap, subst, ◌∙◌, arith, inl, inr}
use Rattle.std.proofs.lemmas.Bool.{cases_Bool}
use Rattle.std.proofs.lemmas.Bool.Decides.{nat_tests}
use Rattle.std.proofs.lemmas.List.{take-append-drop}
use Rattle.std.specs.List.{slice_split, onto_first}
use Rattle.std.proofs.lemmas.List.Splits.{slice_split-cons_yes, slice_split-cons_no, length-slice_split}
use Rattle.memchr.specs.Find.{IsLastByte, is_byte}
use Rattle.bq_label.specs.Paths.{is_slash}
use Rattle.bq_label_glob.specs.Matching.{any_tail, takes, segments_from, is_any_segments, fits_segment, matches}
use Rattle.bq_label_glob.specs.Segment.{IsCutAtLast}
use Rattle.bq_label_glob.proofs.Greedy.{opened, needs_one}
use Rattle.bq_label_glob.proofs.Segments.{cut_end, drop_first, from_start, past_end, slash}

-- ---- lists

and_false : (a : Bool) → (a && false) ≡ false
and_false true = refl
and_false false = refl

distribute : (a b c : Bool) → ((a && b) || (a && c)) ≡ (a && (b || c))
distribute true b c = refl
distribute false b c = refl

swap_and : (a b c : Bool) → (a && (b && c)) ≡ (b && (a && c))
swap_and true b c = refl
swap_and false b c = sym (and_false b)

or_false : (a : Bool) → (a || false) ≡ a
or_false true = refl
or_false false = refl

module _ {A X : Type 0} (many : A → Bool) (fits : A → X → Bool) (a : A) (single : many a ≡ false) where
  -- each tail of a list with a last element has it
  any_tail_last : (f g : List X → Bool) (b : Bool) (x : X) → f [] ≡ false → ((ys : List X) → f (ys ++ x ∷ []) ≡ (b && g ys)) → (xs : List X) → any_tail f (xs ++ x ∷ []) ≡ (b && any_tail g xs)
  any_tail_last f g b x none h [] = ap (λ (r : Bool). f (x ∷ []) || r) none ∙ (or_false (f (x ∷ [])) ∙ h [])
  any_tail_last f g b x none h (y ∷ ys) =
      ap (λ (r : Bool). r || any_tail f (ys ++ x ∷ [])) (h (y ∷ ys))
      ∙ (ap (λ (r : Bool). (b && g (y ∷ ys)) || r) (any_tail_last f g b x none h ys) ∙ distribute b (g (y ∷ ys)) (any_tail g ys))

  last_needs_one : (ps : List A) → takes many fits (ps ++ a ∷ []) [] ≡ false
  last_needs_one [] = needs_one many fits a [] single
  last_needs_one (p ∷ ps) = elim (cases_Bool (many p)) [
    | inl y ↦ opened many fits p (ps ++ a ∷ []) [] y ∙ last_needs_one ps
    | inr n ↦ needs_one many fits p (ps ++ a ∷ []) n
  ]

  one_step : (p : A) (ps : List A) (y : X) (ys : List X) → many p ≡ false → takes many fits (p ∷ ps) (y ∷ ys) ≡ (fits p y && takes many fits ps ys)
  unfolding takes
  one_step p ps y ys n = rw n refl

  not_nothing : (xs : List X) (x : X) → takes many fits [] (xs ++ x ∷ []) ≡ false
  unfolding takes
  not_nothing [] x = refl
  not_nothing (y ∷ ys) x = refl

  only_one : (x : X) (xs : List X) → takes many fits (a ∷ []) (xs ++ x ∷ []) ≡ (fits a x && takes many fits [] xs)
  unfolding takes
  only_one x [] = rw single refl
  only_one x (y ∷ ys) = one_step a [] y (ys ++ x ∷ []) single ∙ (ap (λ (r : Bool). fits a y && r) (not_nothing ys x) ∙ (and_false (fits a y) ∙ sym (and_false (fits a x))))

  pub takes_last : (x : X) (ps : List A) (xs : List X) → takes many fits (ps ++ a ∷ []) (xs ++ x ∷ []) ≡ (fits a x && takes many fits ps xs)
  takes_last x [] xs = only_one x xs
  takes_last x (p ∷ ps) xs = elim (cases_Bool (many p)) [
    | inl y ↦
        opened many fits p (ps ++ a ∷ []) (xs ++ x ∷ []) y
        ∙ (any_tail_last (takes many fits (ps ++ a ∷ [])) (takes many fits ps) (fits a x) x (last_needs_one ps) (takes_last x ps) xs
        ∙ ap (λ (r : Bool). fits a x && r) (sym (opened many fits p ps xs y)))
    | inr n ↦ after_one n (takes_last x ps) xs
  ]
    where
      after_one : many p ≡ false → ((zs : List X) → takes many fits (ps ++ a ∷ []) (zs ++ x ∷ []) ≡ (fits a x && takes many fits ps zs)) → (zs : List X)
          → takes many fits (p ∷ (ps ++ a ∷ [])) (zs ++ x ∷ []) ≡ (fits a x && takes many fits (p ∷ ps) zs)
      after_one n h [] =
          one_step p (ps ++ a ∷ []) x [] n ∙ (ap (λ (r : Bool). fits p x && r) (last_needs_one ps)
          ∙ (and_false (fits p x) ∙ (sym (and_false (fits a x)) ∙ ap (λ (r : Bool). fits a x && r) (sym (needs_one many fits p ps n)))))
      after_one n h (z ∷ zs) =
          one_step p (ps ++ a ∷ []) z (zs ++ x ∷ []) n ∙ (ap (λ (r : Bool). fits p z && r) (h zs)
          ∙ (swap_and (fits p z) (fits a x) (takes many fits ps zs) ∙ ap (λ (r : Bool). fits a x && r) (sym (one_step p ps z zs n))))

-- ---- paths

onto_front : (b : ℕ) (ss ts : List (List ℕ)) → 0 < length ss → onto_first b (ss ++ ts) ≡ onto_first b ss ++ ts
onto_front b [] ts l = absurd (omega (arith, l))
onto_front b (s ∷ ss) ts l = refl

some_segments : (path : List ℕ) → 0 < length (slice_split is_slash path)
some_segments path = omega (arith, length-slice_split is_slash path)

-- a path that is cut at a slash
pub cut_at_slash : (before after : List ℕ) → slice_split is_slash (before ++ 47 ∷ after) ≡ slice_split is_slash before ++ slice_split is_slash after
cut_at_slash [] after = slice_split-cons_yes is_slash 47 after refl
cut_at_slash (b ∷ bs) after = elim (cases_Bool (is_slash b)) [
  | inl y ↦
      slice_split-cons_yes is_slash b (bs ++ 47 ∷ after) y
      ∙ (ap (λ (t : List (List ℕ)). [] ∷ t) (cut_at_slash bs after) ∙ ap (λ (t : List (List ℕ)). t ++ slice_split is_slash after) (sym (slice_split-cons_yes is_slash b bs y)))
  | inr n ↦
      slice_split-cons_no is_slash b (bs ++ 47 ∷ after) n
      ∙ (ap (onto_first b) (cut_at_slash bs after)
      ∙ (onto_front b (slice_split is_slash bs) (slice_split is_slash after) (some_segments bs)
      ∙ ap (λ (t : List (List ℕ)). t ++ slice_split is_slash after) (sym (slice_split-cons_no is_slash b bs n))))
]

index_after : (xs : List ℕ) (i k : ℕ) → slice_index (drop i xs) k ≡ slice_index xs (i + k)
index_after xs zero k = let same : k ≡ 0 + k = omega arith in ap (slice_index xs) same
index_after [] (suc i) k = refl
index_after (x ∷ xs) (suc i) k = let more : suc (i + k) ≡ suc i + k = omega arith in index_after xs i k ∙ ap (slice_index (x ∷ xs)) more

length_after : (xs : List ℕ) (i k : ℕ) → k < length (drop i xs) → i + k < length xs
length_after xs zero k l = omega (arith, l)
length_after [] (suc i) k l = absurd (omega (arith, l))
length_after (x ∷ xs) (suc i) k l = let less = length_after xs i k l in omega (arith, less)

pub last_slash : (path : List ℕ) (at : ℕ) → IsLastByte (is_byte 47) path (Some at) → slice_split is_slash path ≡ slice_split is_slash (take at path) ++ drop (at + 1) path ∷ []
last_slash path at h =
    let end : slice_split is_slash (drop (at + 1) path) ≡ drop (at + 1) path ∷ [] =
    cut_end (drop (at + 1) path)
    (λ k l e. h.0.after (at + 1 + k) (omega arith) (length_after path (at + 1) k l) (slash (slice_index path (at + 1 + k)) (sym (index_after path (at + 1) k) ∙ e))) in
    let whole : path ≡ take at path ++ 47 ∷ drop (at + 1) path =
    sym (take-append-drop at path) ∙ ap (λ (t : List ℕ). take at path ++ t) (drop_first path at h.0.high ∙ ap (λ (b : ℕ). b ∷ drop (at + 1) path) (is_it (slice_index path at) h.1)) in
    ap (slice_split is_slash) whole ∙ (cut_at_slash (take at path) (drop (at + 1) path) ∙ ap (λ (t : List (List ℕ)). slice_split is_slash (take at path) ++ t) end)
  where
    is_it : (b : ℕ) → is_byte 47 b ≡ true → b ≡ 47
    is_it b y = grind (arith, nat_tests)

pub no_slash_at_all : (path : List ℕ) → IsLastByte (is_byte 47) path None → slice_split is_slash path ≡ path ∷ []
no_slash_at_all path h = cut_end path (λ k l e. h k (omega arith) l (slash (slice_index path k) e))

-- ---- both

pub turned : (a b : Bool) → a ≡ not b → b ≡ not a
turned a true e = ap not (sym e)
turned a false e = ap not (sym e)

pub cut_none : {A : Type 0} (f : A → List ℕ) (more : Option A) (path last : List ℕ) → IsCutAtLast f more path last → more ≡ None → slice_split is_slash path ≡ last ∷ []
cut_none {A} f more path last h e = subst (λ (m : Option A). IsCutAtLast f m path last) e h

pub cut_some : {A : Type 0} (f : A → List ℕ) (more : Option A) (path last : List ℕ) (m : A) → IsCutAtLast f more path last → more ≡ Some m → slice_split is_slash path ≡ slice_split is_slash (f m) ++ last ∷ []
cut_some {A} f more path last m h e = subst (λ (n : Option A). IsCutAtLast f n path last) e h

all_but_last : {A : Type 0} (f : A → List ℕ) (more : Option A) (path last : List ℕ) → IsCutAtLast f more path last → (ps : List (List ℕ)) × (slice_split is_slash path ≡ ps ++ last ∷ [])
all_but_last f None path last h = ([], h)
all_but_last f (Some m) path last h = (slice_split is_slash (f m), h)

module _ (pattern path last segment : List ℕ) (single : is_any_segments last ≡ false) where
  -- what is left of both when the last segments are taken
  left_of : (ps xs : List (List ℕ)) → slice_split is_slash pattern ≡ ps ++ last ∷ [] → slice_split is_slash path ≡ xs ++ segment ∷ [] → matches pattern path ≡ (fits_segment last segment && takes is_any_segments fits_segment ps xs)
  unfolding matches
  left_of ps xs d e =
      ap (λ (t : List (List ℕ)). takes is_any_segments fits_segment t (slice_split is_slash path)) d
      ∙ (ap (takes is_any_segments fits_segment (ps ++ last ∷ [])) e ∙ takes_last is_any_segments fits_segment last single segment ps xs)

  fitting : (ps xs : List (List ℕ)) → slice_split is_slash pattern ≡ ps ++ last ∷ [] → slice_split is_slash path ≡ xs ++ segment ∷ [] → fits_segment last segment ≡ true → matches pattern path ≡ takes is_any_segments fits_segment ps xs
  fitting ps xs d e f = left_of ps xs d e ∙ ap (λ (b : Bool). b && takes is_any_segments fits_segment ps xs) f

  pub both_are_left : (more before : List ℕ) → slice_split is_slash pattern ≡ slice_split is_slash more ++ last ∷ [] → slice_split is_slash path ≡ slice_split is_slash before ++ segment ∷ [] → fits_segment last segment ≡ true → matches pattern path ≡ matches more before
  unfolding matches
  both_are_left more before d e f = fitting (slice_split is_slash more) (slice_split is_slash before) d e f

  pub pattern_is_left : (more : List ℕ) → slice_split is_slash pattern ≡ slice_split is_slash more ++ last ∷ [] → slice_split is_slash path ≡ segment ∷ [] → fits_segment last segment ≡ true
      → matches pattern path ≡ takes is_any_segments fits_segment (segments_from more 0) (segments_from [] 1)
  pattern_is_left more d e f =
      fitting (slice_split is_slash more) [] d e f
      ∙ (ap (λ (t : List (List ℕ)). takes is_any_segments fits_segment t []) (sym (from_start more))
      ∙ ap (takes is_any_segments fits_segment (segments_from more 0)) (sym (past_end [] 1 (omega arith))))

  nothing_or_some : (xs : List (List ℕ)) → 0 < length xs → takes is_any_segments fits_segment [] xs ≡ false
  unfolding takes
  nothing_or_some [] l = absurd (omega (arith, l))
  nothing_or_some (x ∷ xs) l = refl

  nothing_left : takes is_any_segments fits_segment [] [] ≡ true
  unfolding takes
  nothing_left = refl

  -- nothing is left of the pattern
  pub path_is_left : {B : Type 0} (g : B → List ℕ) (before : Option B) → slice_split is_slash pattern ≡ last ∷ [] → IsCutAtLast g before path segment → fits_segment last segment ≡ true → matches pattern path ≡ is_none before
  path_is_left g None d e f = fitting [] [] d e f ∙ nothing_left
  path_is_left g (Some b) d e f = fitting [] (slice_split is_slash (g b)) d e f ∙ nothing_or_some (slice_split is_slash (g b)) (some_segments (g b))

  pub misfit_at_end : {A B : Type 0} (f : A → List ℕ) (g : B → List ℕ) (more : Option A) (before : Option B) → IsCutAtLast f more pattern last → IsCutAtLast g before path segment → fits_segment last segment ≡ false → matches pattern path ≡ false
  misfit_at_end f g more before d e n =
      let ps = all_but_last f more pattern last d in
      let xs = all_but_last g before path segment e in
      left_of ps.0 xs.0 ps.1 xs.1 ∙ ap (λ (b : Bool). b && takes is_any_segments fits_segment ps.0 xs.0) n
