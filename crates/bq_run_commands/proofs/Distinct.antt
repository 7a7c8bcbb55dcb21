-- Files with distinct paths: what stays so, and that the files at paths decide which files these are.
use Rattle.std.proofs.Common.{◌≡◌, ◌∙◌, ◌++◌, ◌&&◌, ◌||◌, ℕ, Bool, true, false, cond, not, List, [], ◌∷◌, Option, Some, None, map, refl, sym, ap, subst, inl, inr, arith}
use Rattle.std.specs.Option.{is_some}
use Rattle.std.specs.Str.{bytes_eq}
use Rattle.std.specs.List.{Contains, filter, list_any}
use Rattle.std.specs.List.Sorted.{IsPermutation}
use Rattle.std.proofs.lemmas.Bool.{cases_Bool, false≢true}
use Rattle.std.proofs.lemmas.Cmp.{nat_list_eq_equiv}
use Rattle.std.proofs.lemmas.List.Sorted.{IsPermutation-refl, IsPermutation-trans, IsPermutation-cons, IsPermutation-filter_both}
use Rattle.bq_label.specs.declared.workspace.File.{File}
use Rattle.bq_label.specs.Workspace.{are_distinct, file_at, paths_of}
use Rattle.bq_label.proofs.Above.{same_bytes}
use Rattle.bq_label.proofs.Orders.{head_or_tail}
use Rattle.bq_label.proofs.Workspaces.{any_at_path}
use Rattle.bq_run_commands.specs.declared.edits.Edit.{Edit}
use Rattle.bq_run_commands.specs.declared.edits.Edit.TheVariants.{Put, Remove}
use Rattle.bq_run_commands.specs.Edits.{edited, is_elsewhere, with_edit}
use Rattle.bq_run_commands.proofs.Found.{at_none, at_first, at_later, at_elsewhere, itself}

turned : (p q : List ℕ) → bytes_eq p q ≡ bytes_eq q p
turned p q = nat_list_eq_equiv.symm p q

pub none_of : (z : Option File) → is_some z ≡ false → z ≡ None
none_of None e = refl
none_of (Some f) e = absurd (false≢true (sym e))

-- ---- paths that are distinct

pub distinct_more : (p : List ℕ) (ps : List (List ℕ)) → list_any (bytes_eq p) ps ≡ false → are_distinct ps ≡ true → are_distinct (p ∷ ps) ≡ true
unfolding are_distinct
distinct_more p ps lacks d = rw (lacks, d) refl

pub distinct_none : are_distinct [] ≡ true
unfolding are_distinct
distinct_none = refl

pub first_apart : (p : List ℕ) (ps : List (List ℕ)) → are_distinct (p ∷ ps) ≡ true → list_any (bytes_eq p) ps ≡ false
unfolding are_distinct
first_apart p ps d = elim (cases_Bool (list_any (bytes_eq p) ps)) [
  | inl y ↦ absurd (false≢true (sym (rw y refl) ∙ d))
  | inr n ↦ n
]

pub others_distinct : (p : List ℕ) (ps : List (List ℕ)) → are_distinct (p ∷ ps) ≡ true → are_distinct ps ≡ true
unfolding are_distinct
others_distinct p ps d = elim (cases_Bool (list_any (bytes_eq p) ps)) [
  | inl y ↦ absurd (false≢true (sym (rw y refl) ∙ d))
  | inr n ↦ sym (rw n refl) ∙ d
]

-- no file at a path that no file has
pub nothing_at : (fs : List File) (p : List ℕ) → list_any (bytes_eq p) (paths_of fs) ≡ false → file_at fs p ≡ None
nothing_at fs p lacks = none_of (file_at fs p) (sym (any_at_path fs p) ∙ lacks)

pub others_elsewhere : (f : File) (fs : List File) (p : List ℕ) → are_distinct (paths_of (f ∷ fs)) ≡ true → bytes_eq f.path p ≡ true → file_at fs p ≡ None
others_elsewhere f fs p d y = nothing_at fs p (subst (λ (t : List ℕ). list_any (bytes_eq t) (paths_of fs) ≡ false) (same_bytes f.path p y) (first_apart f.path (paths_of fs) d))

-- each of them is the file at its path
pub found_there : (fs : List File) (f : File) → are_distinct (paths_of fs) ≡ true → Contains fs f → file_at fs f.path ≡ Some f
found_there [] f d c = absurd (omega arith)
found_there (g ∷ gs) f d c = elim (head_or_tail g gs f c) [
  | inl e ↦ subst (λ (h : File). file_at (g ∷ gs) h.path ≡ Some h) e (at_first g gs g.path (itself g.path))
  | inr r ↦
      let there : file_at gs f.path ≡ Some f = found_there gs f (others_distinct g.path (paths_of gs) d) r in
      elim (cases_Bool (bytes_eq g.path f.path)) [
        | inl y ↦ let none : Some f ≡ None = sym there ∙ others_elsewhere g gs f.path d y in absurd (cc)
        | inr n ↦ at_later g gs f.path n ∙ there
      ]
]

-- ---- what stays distinct

pub apart_among : (q : List ℕ) (t : File → Bool) (fs : List File) → list_any (bytes_eq q) (paths_of fs) ≡ false → list_any (bytes_eq q) (paths_of (filter t fs)) ≡ false
apart_among q t [] lacks = refl
apart_among q t (f ∷ fs) lacks = elim (cases_Bool (bytes_eq q f.path)) [
  | inl y ↦ absurd (false≢true (sym lacks ∙ rw y refl))
  | inr n ↦
      let rest : list_any (bytes_eq q) (paths_of (filter t fs)) ≡ false = apart_among q t fs (sym (rw n refl) ∙ lacks) in
      elim (cases_Bool (t f)) [ inl y ↦ rw y (rw n rest) | inr m ↦ rw m rest ]
]

pub distinct_among : (t : File → Bool) (fs : List File) → are_distinct (paths_of fs) ≡ true → are_distinct (paths_of (filter t fs)) ≡ true
distinct_among t [] d = d
distinct_among t (f ∷ fs) d =
    let rest : are_distinct (paths_of (filter t fs)) ≡ true = distinct_among t fs (others_distinct f.path (paths_of fs) d) in
    elim (cases_Bool (t f)) [
      | inl y ↦ rw y (distinct_more f.path (paths_of (filter t fs)) (apart_among f.path t fs (first_apart f.path (paths_of fs) d)) rest)
      | inr n ↦ rw n rest
    ]

pub any_joined : (q : List ℕ) (ps qs : List (List ℕ)) → list_any (bytes_eq q) ps ≡ false → list_any (bytes_eq q) qs ≡ false → list_any (bytes_eq q) (ps ++ qs) ≡ false
any_joined q [] qs a b = b
any_joined q (p ∷ ps) qs a b = elim (cases_Bool (bytes_eq q p)) [
  | inl y ↦ absurd (false≢true (sym a ∙ rw y refl))
  | inr n ↦ rw n (any_joined q ps qs (sym (rw n refl) ∙ a) b)
]

apart_with : (q : List ℕ) (fs : List File) (g : File) → list_any (bytes_eq q) (paths_of fs) ≡ false → bytes_eq q g.path ≡ false → list_any (bytes_eq q) (paths_of (fs ++ g ∷ [])) ≡ false
apart_with q [] g lacks n = rw n refl
apart_with q (f ∷ fs) g lacks n = elim (cases_Bool (bytes_eq q f.path)) [
  | inl y ↦ absurd (false≢true (sym lacks ∙ rw y refl))
  | inr m ↦ rw m (apart_with q fs g (sym (rw m refl) ∙ lacks) n)
]

distinct_with : (fs : List File) (g : File) → are_distinct (paths_of fs) ≡ true → list_any (bytes_eq g.path) (paths_of fs) ≡ false → are_distinct (paths_of (fs ++ g ∷ [])) ≡ true
distinct_with [] g d lacks = distinct_more g.path [] refl distinct_none
distinct_with (f ∷ fs) g d lacks = elim (cases_Bool (bytes_eq g.path f.path)) [
  | inl y ↦ absurd (false≢true (sym lacks ∙ rw y refl))
  | inr n ↦
      let apart : list_any (bytes_eq f.path) (paths_of (fs ++ g ∷ [])) ≡ false = apart_with f.path fs g (first_apart f.path (paths_of fs) d) (turned f.path g.path ∙ n) in
      distinct_more f.path (paths_of (fs ++ g ∷ [])) apart (distinct_with fs g (others_distinct f.path (paths_of fs) d) (sym (rw n refl) ∙ lacks))
]

nothing : (b : Bool) (z : Option File) → b ≡ true → is_some (cond b None z) ≡ false
nothing b z e = rw e refl

-- no file that is elsewhere is at the path
none_elsewhere : (q : List ℕ) (fs : List File) → list_any (bytes_eq q) (paths_of (filter (is_elsewhere q) fs)) ≡ false
none_elsewhere q fs = any_at_path (filter (is_elsewhere q) fs) q ∙ (ap is_some (at_elsewhere q q fs) ∙ nothing (bytes_eq q q) (file_at fs q) (itself q))

one_edit : (fs : List File) (e : Edit) → are_distinct (paths_of fs) ≡ true → are_distinct (paths_of (with_edit e fs)) ≡ true
one_edit fs (Put f) d = distinct_with (filter (is_elsewhere f.path) fs) f (distinct_among (is_elsewhere f.path) fs d) (none_elsewhere f.path fs)
one_edit fs (Remove q) d = distinct_among (is_elsewhere q) fs d

pub edited_distinct : (fs : List File) (es : List Edit) → are_distinct (paths_of fs) ≡ true → are_distinct (paths_of (edited fs es)) ≡ true
edited_distinct fs [] d = d
edited_distinct fs (e ∷ es) d = edited_distinct (with_edit e fs) es (one_edit fs e d)

-- ---- files that are the same at each path are the same

abbrev one_or_none : Option File → List File
one_or_none None = []
one_or_none (Some f) = f ∷ []

abbrev is_there : List ℕ → File → Bool
is_there q f = bytes_eq f.path q

only_there : (q : List ℕ) (fs : List File) → are_distinct (paths_of fs) ≡ true → filter (is_there q) fs ≡ one_or_none (file_at fs q)
only_there q [] d = sym (ap one_or_none (at_none q))
only_there q (f ∷ fs) d =
    let rest : filter (is_there q) fs ≡ one_or_none (file_at fs q) = only_there q fs (others_distinct f.path (paths_of fs) d) in
    elim (cases_Bool (bytes_eq f.path q)) [
      | inl y ↦ rw y (ap (λ (z : List File). f ∷ z) (rest ∙ ap one_or_none (others_elsewhere f fs q d y)) ∙ sym (ap one_or_none (at_first f fs q y)))
      | inr n ↦ rw n (rest ∙ sym (ap one_or_none (at_later f fs q n)))
    ]

at_others : (w : File) (ws : List File) (p : List ℕ) → are_distinct (paths_of (w ∷ ws)) ≡ true → cond (bytes_eq w.path p) None (file_at (w ∷ ws) p) ≡ file_at ws p
at_others w ws p d = elim (cases_Bool (bytes_eq w.path p)) [
  | inl y ↦ rw y (sym (others_elsewhere w ws p d y))
  | inr n ↦ rw n (at_later w ws p n)
]

pub same_files : (fs ws : List File) → are_distinct (paths_of fs) ≡ true → are_distinct (paths_of ws) ≡ true → ((p : List ℕ) → file_at fs p ≡ file_at ws p) → IsPermutation fs ws
same_files [] [] d k same = IsPermutation-refl []
same_files (f ∷ fs) [] d k same =
    let some : Some f ≡ None = sym (at_first f fs f.path (itself f.path)) ∙ (same f.path ∙ at_none f.path) in
    absurd (cc)
same_files fs (w ∷ ws) d k same =
    let q : List ℕ = w.path in
    let others : List File = filter (is_elsewhere q) fs in
    let first : filter (is_there q) fs ≡ w ∷ [] = only_there q fs d ∙ ap one_or_none (same q ∙ at_first w ws q (itself q)) in
    let split : IsPermutation fs (filter (is_there q) fs ++ others) = IsPermutation-filter_both (is_there q) (is_elsewhere q) (λ f. refl) fs in
    let moved : IsPermutation fs (w ∷ others) = subst (λ (z : List File). IsPermutation fs (z ++ others)) first split in
    let rest : IsPermutation others ws = same_files others ws (distinct_among (is_elsewhere q) fs d) (others_distinct q (paths_of ws) k)
    (λ p. at_elsewhere q p fs ∙ (ap (cond (bytes_eq q p) None) (same p) ∙ at_others w ws p k)) in
    IsPermutation-trans fs (w ∷ others) (w ∷ ws) moved (IsPermutation-cons w others ws rest)
