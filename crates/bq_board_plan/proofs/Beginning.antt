-- The dependents of each module, and the start of the sort.
use Rattle.std.proofs.Common.{◌≡◌, ℕ, ◌+◌, ◌<◌, ◌≤◌, List, [], ◌∷◌, ◌++◌, length, get_or, set, sym, refl, ap, subst, ◌∙◌, inl, inr, arith, length-append, length-set, get_or-set_same, get_or-set_other}
use mathlib.Core.Logic.{dite}
use native.Mathlib.Decide.{ℕ_discrete, dec_lt}
use Rattle.std.proofs.lemmas.List.{get_or_past, get_or_append_left, get_or_push}
use Rattle.bq_board_plan.specs.Counts.{times}
use Rattle.bq_board_plan.specs.Graph.{Loads, row}
use Rattle.bq_board_plan.specs.Sorting.{Sorting, IsDependents, Adds, DependentsBelow, Begins, closed}
use Rattle.bq_board_plan.specs.Topological.{is_zero}
use Rattle.bq_board_plan.proofs.Sums.{times_same, times_other, times_more, at_same, at_other, Has_snoc}
use Rattle.bq_board_plan.proofs.Settling.{at_zero, not_zero}

pub adds_none : (u : ℕ) (dependents : List (List ℕ)) → Adds u [] dependents dependents
adds_none u dependents = record { wide = refl; mine = λ m h. omega arith; others = λ m v n. refl }

-- u joins the dependents of x
pub adds_more : (u x : ℕ) (xs : List ℕ) (old dependents : List (List ℕ)) → Adds u xs old dependents → x < length old → (r : List ℕ) → r ≡ get_or dependents x [] ++ u ∷ [] → Adds u (xs ++ x ∷ []) old (set dependents x r)
adds_more u x xs old dependents a lt r e = record {
  wide = length-set dependents x r ∙ a.wide;
  mine = λ m h. dite (ℕ_discrete m x)
      (λ same. let at : get_or (set dependents x r) m [] ≡ r = ap (λ v. get_or (set dependents x r) v []) same ∙ get_or-set_same dependents x r [] (omega (arith, a.wide)) in
      let was : get_or dependents x [] ≡ get_or dependents m [] = ap (λ v. get_or dependents v []) (sym same) in
      omega (arith, a.mine m h, ap (times u) at, ap (times u) e, times_same u (get_or dependents x []), ap (times u) was, times_more m xs x, at_same m x (sym same)))
      (λ ne. let at : get_or (set dependents x r) m [] ≡ get_or dependents m [] = get_or-set_other dependents x m r [] ne in
      omega (arith, a.mine m h, ap (times u) at, times_more m xs x, at_other m x (λ d. ne (sym d))));
  others = λ m v n. dite (ℕ_discrete m x)
      (λ same. let at : get_or (set dependents x r) m [] ≡ r = ap (λ w. get_or (set dependents x r) w []) same ∙ get_or-set_same dependents x r [] (omega (arith, a.wide)) in
      let was : get_or dependents x [] ≡ get_or dependents m [] = ap (λ w. get_or dependents w []) (sym same) in
      omega (arith, a.others m v n, ap (times v) at, ap (times v) e, times_other v (get_or dependents x []) u (λ d. n (sym d)), ap (times v) was))
      (λ ne. ap (times v) (get_or-set_other dependents x m r [] ne) ∙ a.others m v n);
}

pub dependents_none : (p dependents : List (List ℕ)) → length dependents ≡ length p → ((m : ℕ) → get_or dependents m [] ≡ []) → DependentsBelow p 0 dependents
dependents_none p dependents e h = record { wide = e; known = λ m u l. ap (times u) (h m); both = λ m u lt b. absurd (omega arith) }

pub dependents_more : (p old new : List (List ℕ)) (i : ℕ) → DependentsBelow p i old → Adds i (row p i) old new → DependentsBelow p (i + 1) new
dependents_more p old new i b a = record {
  wide = a.wide ∙ b.wide;
  known = λ m u l. a.others m u (λ e. absurd (omega arith)) ∙ b.known m u (omega arith);
  both = λ m u lt h. dite (ℕ_discrete u i)
      (λ same. let P : ℕ → Type 0 = λ v. times v (get_or new m []) ≡ times m (row p v) in subst P (sym same) (omega (arith, a.mine m (omega (arith, b.wide)), b.known m i (omega arith))))
      (λ ne. a.others m u ne ∙ b.both m u lt (omega arith));
}

pub dependents_all : (p dependents : List (List ℕ)) (i : ℕ) → length p ≤ i → i ≤ length p → DependentsBelow p i dependents → IsDependents p dependents
dependents_all p dependents i ge le b = record {
  wide = b.wide;
  known = λ m u h. dite (dec_lt u (length p)) (λ lt. lt) (λ nl. absurd (omega (arith, b.known m u (omega arith))));
  both = λ m u lt. dite (dec_lt u (length p)) (λ h. b.both m u lt (omega arith))
      (λ nl. b.known m u (omega arith) ∙ sym (ap (times m) (get_or_past p u [] (omega arith))));
}

pub begins_none : (p : Loads) → Begins p 0 [] []
begins_none p = record { wide = refl; within = λ u h. absurd (omega arith); each = λ u h. absurd (omega arith); once = λ u h. absurd (omega arith); bare = λ k h. absurd (omega arith) }

module _ (p : Loads) (i : ℕ) (order pending : List ℕ) (b : Begins p i order pending) (n : ℕ) (e : n ≡ length (row p i)) where
  counted : (u : ℕ) → u < i + 1 → get_or (pending ++ n ∷ []) u 0 ≡ length (row p u)
  counted u h = dite (ℕ_discrete u i)
      (λ same. let P : ℕ → Type 0 = λ v. get_or (pending ++ n ∷ []) v 0 ≡ length (row p v) in subst P (sym same) (get_or_push pending n 0 i b.wide ∙ e))
      (λ ne. get_or_append_left pending (n ∷ []) 0 u (omega (arith, b.wide)) ∙ b.each u (omega arith))

  unseen : times i order ≡ 0
  unseen = dite (ℕ_discrete (times i order) 0) (λ z. z) (λ nz. absurd (omega (arith, b.within i (omega arith))))

  old_once : (u : ℕ) → u < i → times u order ≡ is_zero (get_or (pending ++ n ∷ []) u 0)
  old_once u h = b.once u h ∙ ap is_zero (sym (get_or_append_left pending (n ∷ []) 0 u (omega (arith, b.wide))))

  pub begins_waits : 0 < n → (g : List ℕ) → g ≡ order → Begins p (i + 1) g (pending ++ n ∷ [])
  begins_waits pos g same = let P : List ℕ → Type 0 = λ t. Begins p (i + 1) t (pending ++ n ∷ []) in subst P (sym same) record {
    wide = omega (arith, length-append pending (n ∷ []), b.wide);
    within = λ u h. omega (arith, b.within u h);
    each = counted;
    once = λ u h. dite (ℕ_discrete u i)
        (λ at. ap (λ v. times v order) at ∙ unseen ∙ sym (not_zero (get_or (pending ++ n ∷ []) u 0) (omega (arith, counted u h, ap (λ v. length (row p v)) at))))
        (λ ne. old_once u (omega arith));
    bare = b.bare;
  }

  pub begins_ready : n ≡ 0 → (g : List ℕ) → g ≡ order ++ i ∷ [] → Begins p (i + 1) g (pending ++ n ∷ [])
  begins_ready zero_n g same = let P : List ℕ → Type 0 = λ t. Begins p (i + 1) t (pending ++ n ∷ []) in subst P (sym same) record {
    wide = omega (arith, length-append pending (n ∷ []), b.wide);
    within = λ u h. elim (Has_snoc order i u h) [ inl k ↦ omega (arith, b.within u k) | inr k ↦ omega arith ];
    each = counted;
    once = λ u h. dite (ℕ_discrete u i)
        (λ at. ap (λ v. times v (order ++ i ∷ [])) at ∙ times_same i order ∙ ap (λ v. v + 1) unseen ∙ sym (at_zero (get_or (pending ++ n ∷ []) u 0) (omega (arith, counted u h, ap (λ v. length (row p v)) at))))
        (λ ne. times_other u order i (λ d. ne (sym d)) ∙ old_once u (omega arith));
    bare = λ k h. dite (ℕ_discrete k (length order))
        (λ at. ap (row p) (get_or_push order i 0 k (sym at)) ∙ empty (row p i) (omega arith))
        (λ ne. ap (row p) (get_or_append_left order (i ∷ []) 0 k (omega (arith, length-append order (i ∷ [])))) ∙ b.bare k (omega (arith, length-append order (i ∷ []))));
  }
    where
      empty : (xs : List ℕ) → length xs ≡ 0 → xs ≡ []
      empty [] h = refl
      empty (x ∷ xs) h = absurd (omega arith)

closed_none : (xs : List ℕ) → closed [] xs ≡ 0
closed_none [] = refl
closed_none (x ∷ xs) = omega (arith, closed_none xs)

pub begun : (p : Loads) (i : ℕ) (order pending : List ℕ) → length p ≤ i → i ≤ length p → Begins p i order pending → Sorting p 0 order pending
begun p i order pending ge le b = record {
  at_in = omega arith;
  wide = omega (arith, b.wide);
  within = λ u h. omega (arith, b.within u h);
  left = λ u h. omega (arith, closed_none (row p u), b.each u (omega arith));
  once = λ u h. b.once u (omega arith);
  after = λ k l h r. absurd (omega (arith, ap (times l) (b.bare k h)));
}
