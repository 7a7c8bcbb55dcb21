-- The files beneath a directory follow one another in a workspace.
use Rattle.std.proofs.Common.{◌≡◌, ◌+◌, ◌≤◌, ◌++◌, ℕ, zero, suc, Bool, true, false, List, [], ◌∷◌, length, take, drop, get_or, refl, sym, ap, subst, ◌∙◌, arith, inl, inr, length-drop, ◌-◌}
use Rattle.std.proofs.lemmas.Bool.{cases_Bool, cases_lt, eq-eqb, false≢true}
use Rattle.std.proofs.lemmas.List.{get_or-drop, take-append-drop, take_rest}
use Rattle.std.proofs.Math.Seq.{take-append_seam}
use Rattle.std.proofs.lemmas.Cmp.{nat_list_cmp_total, nat_cmp_total, tied_itself, ranked}
use Rattle.std.proofs.lemmas.Map.Keys.{Less-from_sorted}
use Rattle.std.specs.Cmp.Lexicographic.{slice_cmp}
use Rattle.std.specs.List.{filter, AllWithin}
use Rattle.std.specs.List.Sorted.{IsStrictlySortedBy, IsPartitionedBy, IsPartitionPoint}
use Rattle.std.specs.Ordering.{nat_cmp, is_lt, ordering_then}
use Rattle.std.specs.declared.cmp.Ordering.{Ordering}
use Rattle.std.specs.declared.cmp.Ordering.TheVariants.{Less, Equal, Greater}
use Rattle.bq_label.specs.declared.workspace.File.{File}
use Rattle.bq_label.specs.Workspace.{path_cmp}
use Rattle.bq_label.proofs.Above.{same_bytes, equal_bytes}
use Rattle.bq_label_glob.specs.Names.{is_before, is_beneath}

-- ---- a text that begins with another

pub beneath_whole : (dir path : List ℕ) → is_beneath dir path ≡ true → path ≡ dir ++ drop (length dir) path
beneath_whole dir path h =
    sym (take-append-drop (length dir) path) ∙ ap (λ (t : List ℕ). t ++ drop (length dir) path) (sym (same_bytes dir (take (length dir) path) h))

pub beneath_joined : (dir rest : List ℕ) → is_beneath dir (dir ++ rest) ≡ true
beneath_joined dir rest = equal_bytes dir (take (length dir) (dir ++ rest)) (sym (take-append_seam dir rest))

less_is : (r : Ordering) → is_lt r ≡ true → r ≡ Less
less_is Less h = refl
less_is Equal h = absurd (false≢true h)
less_is Greater h = absurd (false≢true h)

-- what begins with a text is not before it
not_before : (dir rest : List ℕ) → is_lt (slice_cmp nat_cmp (dir ++ rest) dir) ≡ false
not_before [] [] = refl
not_before [] (r ∷ rs) = refl
not_before (b ∷ bs) rest = rw (tied_itself nat_cmp_total b) (not_before bs rest)

-- what is between a text and a text that begins with it begins with it too
between : (dir path rest : List ℕ) → is_lt (slice_cmp nat_cmp path dir) ≡ false → slice_cmp nat_cmp path (dir ++ rest) ≡ Less → is_beneath dir path ≡ true
between [] path rest a b = refl
between (d ∷ ds) [] rest a b = absurd (false≢true (sym a))
between (d ∷ ds) (c ∷ cs) rest a b = by_first (between ds cs rest) (nat_cmp c d) refl a b
  where
    by_first : (is_lt (slice_cmp nat_cmp cs ds) ≡ false → slice_cmp nat_cmp cs (ds ++ rest) ≡ Less → is_beneath ds cs ≡ true) → (r : Ordering) → r ≡ nat_cmp c d → is_lt (ordering_then r (slice_cmp nat_cmp cs ds)) ≡ false → ordering_then r (slice_cmp nat_cmp cs (ds ++ rest)) ≡ Less → is_beneath (d ∷ ds) (c ∷ cs) ≡ true
    by_first later Less e a b = absurd (false≢true (sym a))
    by_first later Equal e a b = let same : c ≡ d = ranked c d Equal e in rw (eq-eqb d c (sym same)) (later a b)
    by_first later Greater e a b = absurd (cc)

-- ---- in an ascending list of files

pub before_first : (text : List ℕ) (files : List File) → IsStrictlySortedBy path_cmp files → IsPartitionedBy (is_before text) files
before_first text files s i j d le l h = elim (cases_lt i j) [
  | inl less ↦
      let below : path_cmp (get_or files i d) (get_or files j d) ≡ Less = Less-from_sorted path_cmp files i j d s less l in
      ap is_lt (nat_list_cmp_total.trans ((get_or files i d).path) ((get_or files j d).path) text below (less_is (slice_cmp nat_cmp ((get_or files j d).path) text) h))
  | inr more ↦
      let same : j ≡ i = omega arith in
      subst (λ (k : ℕ). is_before text (get_or files k d) ≡ true) same h
]

pub beneath_first : (dir : List ℕ) (files rest : List File) (at : ℕ) → IsStrictlySortedBy path_cmp files → at ≤ length files → rest ≡ drop at files → AllWithin (λ f. is_before dir f ≡ false) files at (length files) → IsPartitionedBy (λ f. is_beneath dir f.path) rest
beneath_first dir files rest at s room e after i j d le l h = elim (cases_lt i j) [
  | inl less ↦
      let size : length rest + at ≡ length files = omega (arith, ap length e, length-drop at files) in
      let at_i : get_or rest i d ≡ get_or files (at + i) d = ap (λ (v : List File). get_or v i d) e ∙ get_or-drop at files i d in
      let at_j : get_or rest j d ≡ get_or files (at + j) d = ap (λ (v : List File). get_or v j d) e ∙ get_or-drop at files j d in
      let below : path_cmp (get_or files (at + i) d) (get_or files (at + j) d) ≡ Less = Less-from_sorted path_cmp files (at + i) (at + j) d s (omega arith) (omega arith) in
      let last : is_beneath dir ((get_or files (at + j) d).path) ≡ true = subst (λ (f : File). is_beneath dir f.path ≡ true) at_j h in
      let whole : (get_or files (at + j) d).path ≡ dir ++ drop (length dir) ((get_or files (at + j) d).path) = beneath_whole dir ((get_or files (at + j) d).path) last in
      let found : is_beneath dir ((get_or files (at + i) d).path) ≡ true =
      between dir ((get_or files (at + i) d).path) (drop (length dir) ((get_or files (at + j) d).path)) (after (at + i) d (omega arith) (omega arith)) (subst (λ (t : List ℕ). slice_cmp nat_cmp ((get_or files (at + i) d).path) t ≡ Less) whole below) in
      subst (λ (f : File). is_beneath dir f.path ≡ true) (sym at_i) found
  | inr more ↦
      let same : j ≡ i = omega arith in
      subst (λ (k : ℕ). is_beneath dir ((get_or rest k d).path) ≡ true) same h
]

before_fails : (dir path : List ℕ) → is_lt (slice_cmp nat_cmp path dir) ≡ true → is_beneath dir path ≡ false
before_fails dir path h = elim (cases_Bool (is_beneath dir path)) [
  | inl y ↦ absurd (false≢true (sym (subst (λ (t : List ℕ). is_lt (slice_cmp nat_cmp t dir) ≡ false) (sym (beneath_whole dir path y)) (not_before dir (drop (length dir) path))) ∙ h))
  | inr n ↦ n
]

module _ (p : File → Bool) where
  filter_none : (xs : List File) → AllWithin (λ x. p x ≡ false) xs 0 (length xs) → filter p xs ≡ []
  filter_none [] w = refl
  filter_none (x ∷ xs) w = rw (w 0 x (omega arith) (omega arith)) (filter_none xs (λ k d a b. w (suc k) d (omega arith) (omega arith)))

  filter_drop : (xs : List File) (at : ℕ) → AllWithin (λ x. p x ≡ false) xs 0 at → filter p xs ≡ filter p (drop at xs)
  filter_drop xs zero w = refl
  filter_drop [] (suc n) w = refl
  filter_drop (x ∷ xs) (suc n) w = rw (w 0 x (omega arith) (omega arith)) (filter_drop xs n (λ k d a b. w (suc k) d (omega arith) (omega arith)))

  filter_take : (xs : List File) (len : ℕ) → AllWithin (λ x. p x ≡ true) xs 0 len → AllWithin (λ x. p x ≡ false) xs len (length xs) → take len xs ≡ filter p xs
  filter_take xs zero pass fail = sym (filter_none xs fail)
  filter_take [] (suc n) pass fail = refl
  filter_take (x ∷ xs) (suc n) pass fail =
      rw (pass 0 x (omega arith) (omega arith)) (ap (λ v. x ∷ v) (filter_take xs n (λ k d a b. pass (suc k) d (omega arith) (omega arith)) (λ k d a b. fail (suc k) d (omega arith) (omega arith))))

pub beneath_are : (dir : List ℕ) (files rest : List File) (at len : ℕ) → rest ≡ drop at files → AllWithin (λ f. is_before dir f ≡ true) files 0 at
    → IsPartitionPoint (λ f. is_beneath dir f.path ≡ true) (λ f. is_beneath dir f.path ≡ false) rest len → take len rest ≡ filter (λ f. is_beneath dir f.path) files
beneath_are dir files rest at len e before ends =
    let p : File → Bool = λ f. is_beneath dir f.path in
    filter_take p rest len ends.0 ends.1
    ∙ (ap (filter p) e ∙ sym (filter_drop p files at (λ k d a b. before_fails dir ((get_or files k d).path) (before k d a b))))

-- the files from a place on
pub whole_rest : (at : ℕ) (found files : List File) → found ≡ files → take (length found - at) (drop at found) ≡ drop at files
whole_rest at found files e = take_rest found at ∙ ap (drop at) e
