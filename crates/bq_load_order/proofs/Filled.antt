-- The slots fill in load order, each with its module's outcome.
use Rattle.std.proofs.Common.{◌≡◌, ℕ, zero, suc, ◌+◌, ◌<◌, ◌≤◌, true, false, List, [], ◌∷◌, ◌++◌, length, map, take, set, get_or, Option, Some, None, Result, sym, refl, ap, subst, ◌∙◌, inl, inr, arith, length-set, get_or-set_same, get_or-set_other}
use mathlib.Core.Logic.{dite}
use native.Mathlib.Decide.{ℕ_discrete}
use Rattle.std.specs.declared.sync.Arc.{Arc}
use Rattle.std.specs.declared.alloc.Global.{Global}
use Rattle.std.proofs.lemmas.List.{map-set, map_push, take_more, take_all, get_or_push, get_or_append_left, length_push, get_or-map, same_lists}
use Rattle.bq_board_plan.specs.Counts.{Has}
use Rattle.bq_board_plan.specs.Graph.{Loads, row}
use Rattle.bq_board_plan.specs.Cycles.{is_cyclic, starts_path}
use Rattle.bq_board_plan.specs.Depth.{max_load_depth, is_too_deep}
use Rattle.bq_board_plan.specs.Topological.{IsTopologicalOrder, MarksCycles}
use Rattle.bq_board_plan.proofs.Lemmas.{Has_snoc, Has-get_or, at_zero, zero_from, bool_cases}
use Rattle.bq_load_order.specs.Outcome.{first, load_values, evaluated, outcome}
use Rattle.bq_load_order.specs.declared.outcome.Outcome.{Outcome}
use Rattle.bq_load_order.specs.declared.outcome.Outcome.TheVariants.{Cyclic, TooDeep}
use Rattle.bq_load_order.proofs.Solution.{values_same, cyclic_is, deep_is, evaluated_is, outcome_is}
use Rattle.bq_load_order.specs.SharedOutcomes.{shown, slot}
use Rattle.bq_load_order.specs.Slots.{IsLoadOrder, Tabulates, or_failed, found_at, or_else, or_cyclic, Filling, Ready, Puts}

-- a topological order is an order for loading
module _ (p : Loads) (order pending : List ℕ) (sorted : IsTopologicalOrder p order pending) (marks : MarksCycles p pending) where
  none_pending : (m : ℕ) → Has order m → get_or pending m 0 ≡ 0
  none_pending m h = zero_from (get_or pending m 0) (omega (arith, sorted.once m (sorted.within m h)))

  there : (m : ℕ) → m < length p → is_cyclic p m ≡ false → Has order m
  there m h e = dite (ℕ_discrete (get_or pending m 0) 0)
      (λ z. omega (arith, sorted.once m h, at_zero (get_or pending m 0) z))
      (λ nz. let yes_it : is_cyclic p m ≡ true = marks.some m h (omega arith) in absurd (cc))

  pub is_load_order : IsLoadOrder p order
  is_load_order = record {
    within = sorted.within;
    acyclic = λ m h. marks.none m (sorted.within m h) (none_pending m h);
    after = sorted.after;
    all = there;
  }

pub one_tabulated : {A : Type 0} (n : ℕ) (f : ℕ → A) (xs ys : List A) → Tabulates n f xs → Tabulates n f ys → xs ≡ ys
one_tabulated n f xs ys a b = same_lists xs ys (a.wide ∙ sym b.wide) (λ k d h. a.each k d (omega (arith, a.wide)) ∙ sym (b.each k d (omega (arith, a.wide))))

pub tabulates_none : {A : Type 0} (f : ℕ → A) → Tabulates 0 f []
tabulates_none f = record { wide = refl; each = λ m d h. absurd (omega arith) }

pub tabulates_more : {A : Type 0} (f : ℕ → A) (n : ℕ) (xs : List A) (x : A) → Tabulates n f xs → x ≡ f n → Tabulates (n + 1) f (xs ++ x ∷ [])
tabulates_more f n xs x t e = record {
  wide = length_push xs x ∙ ap (λ k. k + 1) t.wide;
  each = λ m d h. dite (ℕ_discrete m n)
      (λ same. get_or_push xs x d m (t.wide ∙ sym same) ∙ e ∙ ap f (sym same))
      (λ ne. get_or_append_left xs (x ∷ []) d m (omega (arith, t.wide)) ∙ t.each m d (omega arith));
}

-- the same of what the elements of a list mean
pub means_none : {A B : Type 0} (see : A → B) (f : ℕ → B) (xs : List A) → xs ≡ [] → Tabulates 0 f (map see xs)
means_none see f xs e = subst (λ ys. Tabulates 0 f (map see ys)) (sym e) (tabulates_none f)

pub means_more : {A B : Type 0} (see : A → B) (f : ℕ → B) (n : ℕ) (old new : List A) (x : A) → Tabulates n f (map see old) → see x ≡ f n → new ≡ old ++ x ∷ [] → Tabulates (n + 1) f (map see new)
means_more see f n old new x t is e = subst (Tabulates (n + 1) f) (sym (ap (map see) e ∙ map_push see old x)) (tabulates_more f n (map see old) (see x) t is)

pub tabulates_all : {A : Type 0} (f : ℕ → A) (n m : ℕ) (xs : List A) → Tabulates n f xs → n ≡ m → Tabulates m f xs
tabulates_all f n m xs t e = subst (λ k. Tabulates k f xs) e t

tabulates_same : {A : Type 0} (f h : ℕ → A) (n : ℕ) (xs : List A) → ((m : ℕ) → m < n → f m ≡ h m) → Tabulates n f xs → Tabulates n h xs
tabulates_same f h n xs same t = record { wide = t.wide; each = λ m d lt. t.each m d lt ∙ same m lt }

module _ {V F : Type 0} (out : ℕ → Outcome V F) where
  pub fill_none : (n : ℕ) (slots : List (Option (Outcome V F))) → length slots ≡ n → ((m : ℕ) → get_or slots m None ≡ None) → Filling out n slots []
  fill_none n slots e h = record { wide = e; done = λ l k. absurd (omega arith); right = λ m. inl (h m) }

  fill_more : (n : ℕ) (slots : List (Option (Outcome V F))) (ms : List ℕ) (m : ℕ) → Filling out n slots ms → m < n → Filling out n (set slots m (Some (out m))) (ms ++ m ∷ [])
  fill_more n slots ms m f h =
      let here : get_or (set slots m (Some (out m))) m None ≡ Some (out m) = get_or-set_same slots m (Some (out m)) None (omega (arith, f.wide)) in record {
        wide = length-set slots m (Some (out m)) ∙ f.wide;
        done = λ l k. dite (ℕ_discrete l m)
            (λ same. ap (λ v. get_or (set slots m (Some (out m))) v None) same ∙ here ∙ ap (λ v. Some (out v)) (sym same))
            (λ ne. get_or-set_other slots m l (Some (out m)) None ne ∙ f.done l (elim (Has_snoc ms m l k) [ inl t ↦ t | inr d ↦ absurd (ne (sym d)) ]));
        right = λ k. dite (ℕ_discrete k m)
            (λ same. inr (ap (λ v. get_or (set slots m (Some (out m))) v None) same ∙ here ∙ ap (λ v. Some (out v)) (sym same)))
            (λ ne. let z = get_or-set_other slots m k (Some (out m)) None ne in elim (f.right k) [ inl t ↦ inl (z ∙ t) | inr t ↦ inr (z ∙ t) ]);
      }

  -- one more outcome, in whatever order
  pub fill_keep : (n : ℕ) (slots : List (Option (Outcome V F))) (m : ℕ) → Filling out n slots [] → m < n → (new : List (Option (Outcome V F))) → Puts out m slots new → Filling out n new []
  fill_keep n slots m f h new puts =
      let more : Filling out n (set slots m (Some (out m))) ([] ++ m ∷ []) = fill_more n slots [] m f h in
      subst (λ (s : List (Option (Outcome V F))). Filling out n s []) (sym puts) record { wide = more.wide; done = λ l k. absurd (omega arith); right = more.right }

  module _ (p : Loads) (order : List ℕ) (sorted : IsLoadOrder p order) (slots : List (Option (Outcome V F))) (i : ℕ) (filled : Filling out (length p) slots (take i order)) where
    -- the next module of the order can be found
    pub fill_ready : i < length order → Ready out p slots (get_or order i 0)
    fill_ready h = let here : Has order (get_or order i 0) = Has-get_or order i h in record {
      wide = filled.wide;
      known = sorted.within (get_or order i 0) here;
      acyclic = sorted.acyclic (get_or order i 0) here;
      done = λ l k. filled.done l (sorted.after i l h k);
      right = filled.right (get_or order i 0);
    }

    pub fill_next : i < length order → (new : List (Option (Outcome V F))) → Puts out (get_or order i 0) slots new → Filling out (length p) new (take (i + 1) order)
    fill_next h new puts =
        let m : ℕ = get_or order i 0 in
        let more : Filling out (length p) (set slots m (Some (out m))) (take i order ++ m ∷ []) = fill_more (length p) slots (take i order) m filled (sorted.within m (Has-get_or order i h)) in
        subst (λ (s : List (Option (Outcome V F))). Filling out (length p) s (take (i + 1) order)) (sym puts)
        (subst (Filling out (length p) (set slots m (Some (out m)))) (sym (take_more order i 0 h)) more)

    pub fill_all : length order ≤ i → Filling out (length p) slots order
    fill_all h = subst (Filling out (length p) slots) (take_all i order h) filled

  -- what isn't found is cyclic
  settles : (p : Loads) (order : List ℕ) → IsLoadOrder p order → (slots : List (Option (Outcome V F))) → Filling out (length p) slots order
      → ((m : ℕ) → is_cyclic p m ≡ true → out m ≡ Cyclic (first (is_cyclic p) (row p m))) → (m : ℕ) → m < length p → or_cyclic p slots m ≡ out m
  settles p order sorted slots filled cyclic m h = elim (bool_cases (is_cyclic p m)) [
    | inl yes_it ↦ elim (filled.right m) [
      | inl none_there ↦ ap (or_else (Cyclic (first (is_cyclic p) (row p m)))) none_there ∙ sym (cyclic m yes_it)
      | inr some_there ↦ ap (or_else (Cyclic (first (is_cyclic p) (row p m)))) some_there
    ]
    | inr not_it ↦ ap (or_else (Cyclic (first (is_cyclic p) (row p m)))) (filled.done m (sorted.all m h not_it))
  ]

module _ {V F : Type 0} (means : ℕ → List V → Result V F) (p : Loads) where
  -- a module's outcome is what it evaluates to by what was found for its loads
  pub found_outcome : (slots : List (Option (Outcome V F))) (m : ℕ) → Ready (outcome means p) p slots m → is_too_deep p m ≡ false → (r : Result (List V) ℕ) → r ≡ load_values (found_at slots) (row p m) → evaluated (means m) r ≡ outcome means p m
  found_outcome slots m ready d r e =
      ap (evaluated (means m)) (e ∙ values_same (found_at slots) (outcome means p) (row p m) (λ l h. ap or_failed (ready.done l h)))
      ∙ sym (outcome_is means p m ∙ evaluated_is means p (outcome means p) m ready.acyclic d)

  -- or that of a module that is too deep
  pub deep_outcome : (m : ℕ) → is_too_deep p m ≡ true → (l : ℕ) (xs : List ℕ) → l ≡ first (starts_path p max_load_depth) xs → xs ≡ row p m → TooDeep l ≡ outcome means p m
  deep_outcome m e l xs is same = ap TooDeep (is ∙ ap (first (starts_path p max_load_depth)) same) ∙ sym (outcome_is means p m ∙ deep_is means p (outcome means p) m e)

  -- what is settled at the end are the outcomes
  pub all_found : (order : List ℕ) → IsLoadOrder p order → (slots : List (Option (Outcome V F))) → Filling (outcome means p) (length p) slots order
      → (os : List (Outcome V F)) → Tabulates (length p) (or_cyclic p slots) os → Tabulates (length p) (outcome means p) os
  all_found order sorted slots filled os t = tabulates_same (or_cyclic p slots) (outcome means p) (length p) os
      (settles (outcome means p) p order sorted slots filled (λ k e. outcome_is means p k ∙ cyclic_is means p (outcome means p) k e)) t

-- slots by what their outcomes mean
module _ {M N V F : Type 0} (see : M → V) (see_fault : N → F) where
  abbrev pub Held : Type 0
  Held = List (Option (Outcome (Arc M Global) (Arc N Global)))

  pub slot_at : (found : Held) (m : ℕ) → get_or (map (slot see see_fault) found) m None ≡ slot see see_fault (get_or found m None)
  slot_at [] m = refl
  slot_at (s ∷ ss) zero = refl
  slot_at (s ∷ ss) (suc m) = slot_at ss m

  pub none_shown : (found : Held) → ((m : ℕ) → get_or found m None ≡ None) → (m : ℕ) → get_or (map (slot see see_fault) found) m None ≡ None
  none_shown found h m = slot_at found m ∙ ap (slot see see_fault) (h m)

  -- the slot that was read
  pub slot_read : (found : Held) (m : ℕ) (s : Option (Outcome (Arc M Global) (Arc N Global))) → m < length found → s ≡ get_or found m s → get_or (map (slot see see_fault) found) m None ≡ slot see see_fault s
  slot_read found m s h read = get_or-map (slot see see_fault) found m s None h ∙ ap (slot see see_fault) (sym read)

  -- an empty slot gets the module's outcome
  pub puts_found : (out : ℕ → Outcome V F) (found : Held) (m : ℕ) (o : Outcome (Arc M Global) (Arc N Global)) → shown see see_fault o ≡ out m
      → Puts out m (map (slot see see_fault) found) (map (slot see see_fault) (set found m (Some o)))
  puts_found out found m o e = map-set (slot see see_fault) found m (Some o) ∙ ap (λ x. set (map (slot see see_fault) found) m (Some x)) e
