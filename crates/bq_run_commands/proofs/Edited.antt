-- Files that are edited one after another, as the edits tell from the last to the first.
use Rattle.std.proofs.Common.{◌≡◌, ◌<◌, ◌≤◌, ◌+◌, ◌++◌, ◌∙◌, ◌||◌, ℕ, Bool, true, false, cond, not, List, [], ◌∷◌, length, take, reverse, get_or, refl, ap, sym, subst, inl, inr, append_assoc, append-nil}
use Rattle.std.specs.Prelude.{bytes_eq}
use Rattle.std.specs.List.{filter, list_any}
use Rattle.std.proofs.lemmas.Bool.{cases_Bool}
use Rattle.std.proofs.lemmas.List.{take_more, take_all, reverse-append}
use Rattle.std.proofs.lemmas.List.Elements.{filter-append}
use Rattle.std.proofs.lemmas.Slice.Eq.{bytes_eq-Decides}
use Rattle.bq_base_texts.specs.NameSet.{has, with_name}
use Rattle.bq_label.specs.declared.workspace.File.{File}
use Rattle.bq_run_commands.specs.declared.edits.Edit.{Edit}
use Rattle.bq_run_commands.specs.declared.edits.Edit.TheVariants.{Put, Remove}
use Rattle.bq_run_commands.specs.Edits.{edited, with_edit, is_elsewhere, is_untouched, path_of, file_put}

or_assoc : (a b c : Bool) → (a || (b || c)) ≡ ((a || b) || c)
or_assoc true b c = refl
or_assoc false b c = refl

or_false : (a : Bool) → (a || false) ≡ a
or_false true = refl
or_false false = refl

any_last : (p : List ℕ → Bool) (xs : List (List ℕ)) (x : List ℕ) → list_any p (xs ++ x ∷ []) ≡ (list_any p xs || p x)
any_last p [] x = or_false (p x)
any_last p (y ∷ ys) x = ap (λ (b : Bool). p y || b) (any_last p ys x) ∙ or_assoc (p y) (list_any p ys) (p x)

neither : (h a : Bool) → not (h || a) ≡ cond (not a) (not h) false
neither true true = refl
neither true false = refl
neither false true = refl
neither false false = refl

there : (h a : Bool) → (a ≡ true → h ≡ true) → not h ≡ cond (not a) (not h) false
there h false e = refl
there h true e = ap not (e refl)

same_name : (names : List (List ℕ)) (path q : List ℕ) → has names path ≡ true → bytes_eq q path ≡ true → has names q ≡ true
same_name names path q h y = ap (has names) ((bytes_eq-Decides q path).0 y) ∙ h

-- what is untouched by one path more is elsewhere, and untouched by the others
one_more : (names : List (List ℕ)) (path : List ℕ) (f : File) → is_untouched (with_name names path) f ≡ cond (is_elsewhere path f) (is_untouched names f) false
one_more names path f = elim (cases_Bool (has names path)) [
  | inl h ↦ rw h (there (has names f.path) (bytes_eq f.path path) (same_name names path f.path h))
  | inr n ↦ rw n (ap not (any_last (bytes_eq f.path) names path) ∙ neither (has names f.path) (bytes_eq f.path path))
]

module _ (p q r : File → Bool) (is : (f : File) → r f ≡ cond (q f) (p f) false) where
  filtered : (b c : Bool) (f : File) (ys zs : List File) → filter p ys ≡ zs → c ≡ cond b (p f) false → filter p (cond b (f ∷ ys) ys) ≡ cond c (f ∷ zs) zs
  filtered true c f ys zs h e = rw (h, e) refl
  filtered false c f ys zs h e = rw e h

  filter_twice : (fs : List File) → filter p (filter q fs) ≡ filter r fs
  filter_twice [] = refl
  filter_twice (f ∷ fs) = filtered (q f) (r f) f (filter q fs) (filter r fs) (filter_twice fs) (is f)

again : (names : List (List ℕ)) (path : List ℕ) (fs : List File) → filter (is_untouched names) (filter (is_elsewhere path) fs) ≡ filter (is_untouched (with_name names path)) fs
again names path fs = filter_twice (is_untouched names) (is_elsewhere path) (is_untouched (with_name names path)) (one_more names path) fs

edit_before : (names : List (List ℕ)) (e : Edit) (fs : List File) → filter (is_untouched names) (with_edit e fs) ≡ filter (is_untouched (with_name names (path_of e))) fs ++ filter (is_untouched names) (file_put e)
edit_before names (Put f) fs = filter-append (is_untouched names) (filter (is_elsewhere f.path) fs) (f ∷ []) ∙ ap (λ (z : List File). z ++ filter (is_untouched names) (f ∷ [])) (again names f.path fs)
edit_before names (Remove path) fs = again names path fs ∙ sym (append-nil (filter (is_untouched (with_name names path)) fs))

edited_last : (fs : List File) (es : List Edit) (e : Edit) → edited fs (es ++ e ∷ []) ≡ with_edit e (edited fs es)
edited_last fs [] e = refl
edited_last fs (x ∷ es) e = edited_last (with_edit x fs) es e

reversed_one : (b : Bool) (f : File) → reverse (cond b (f ∷ []) []) ≡ cond b (f ∷ []) []
reversed_one true f = refl
reversed_one false f = refl

reversed_put : (p : File → Bool) (e : Edit) → reverse (filter p (file_put e)) ≡ filter p (file_put e)
reversed_put p (Put f) = reversed_one (p f) f
reversed_put p (Remove path) = refl

reversed_puts : (p : File → Bool) (e : Edit) (puts : List File) → reverse (puts ++ filter p (file_put e)) ≡ filter p (file_put e) ++ reverse puts
reversed_puts p e puts = reverse-append puts (filter p (file_put e)) ∙ ap (λ (z : List File). z ++ reverse puts) (reversed_put p e)

module _ (fs : List File) (es : List Edit) where
  abbrev Tells : ℕ → List (List ℕ) → List File → Type 0
  Tells i later puts = edited fs es ≡ filter (is_untouched later) (edited fs (take i es)) ++ reverse puts

  none_touched : (gs : List File) → filter (is_untouched []) gs ≡ gs
  none_touched [] = refl
  none_touched (g ∷ gs) = ap (λ (z : List File). g ∷ z) (none_touched gs)

  -- no edit is noted yet
  pub all_left : (i : ℕ) → length es ≤ i → Tells i [] []
  all_left i more = sym (append-nil (filter (is_untouched []) (edited fs (take i es))) ∙ (none_touched (edited fs (take i es)) ∙ ap (edited fs) (take_all i es more)))

  step : (i : ℕ) (e : Edit) (later : List (List ℕ)) (puts : List File) → i < length es → e ≡ get_or es i e → Tells (i + 1) later puts → Tells i (with_name later (path_of e)) (puts ++ filter (is_untouched later) (file_put e))
  step i e later puts less is h =
      let p : File → Bool = is_untouched later in
      let kept : List File = filter p (file_put e) in
      let before : List File = filter (is_untouched (with_name later (path_of e))) (edited fs (take i es)) in
      let last : edited fs (take (i + 1) es) ≡ with_edit e (edited fs (take i es)) =
      ap (edited fs) (take_more es i e less ∙ ap (λ (z : Edit). take i es ++ z ∷ []) (sym is)) ∙ edited_last fs (take i es) e in
      h
      ∙ (ap (λ (z : List File). filter p z ++ reverse puts) last
      ∙ (ap (λ (z : List File). z ++ reverse puts) (edit_before later e (edited fs (take i es)))
      ∙ (append_assoc before kept (reverse puts) ∙ ap (λ (z : List File). before ++ z) (sym (reversed_puts p e puts)))))

  -- one edit more is noted
  pub one_noted : (i n : ℕ) (e : Edit) (later later' : List (List ℕ)) (puts puts' : List File) → n ≡ i + 1 → i < length es → e ≡ get_or es i e → Tells n later puts → later' ≡ with_name later (path_of e) → puts' ≡ puts ++ filter (is_untouched later) (file_put e) → Tells i later' puts'
  one_noted i n e later later' puts puts' next less is h names files = rw (names, files) (step i e later puts less is (subst (λ (m : ℕ). Tells m later puts) next h))

-- what has no place isn't there
pub none_there : (none some found : Bool) → some ≡ not none → some ≡ found → none ≡ not found
none_there true some found h g = ap not (sym h ∙ g)
none_there false some found h g = ap not (sym h ∙ g)
