-- A pattern gives no name by itself exactly where it matches none of the names that it gives together with others.
use Rattle.std.proofs.Common.{◌≡◌, ◌∙◌, ◌&&◌, ◌||◌, ℕ, Bool, true, false, not, List, [], ◌∷◌, Result, Ok, Err, IfOk, refl, sym, ap, inl, inr}
use Rattle.std.proofs.lemmas.Bool.{cases_Bool}
use Rattle.std.specs.List.{filter, list_any}
use Rattle.bq_label.specs.declared.packages.BuildFile.{BuildFile}
use Rattle.bq_label.specs.Label.{PackageParts}
use Rattle.bq_label_glob.specs.Matching.{matches, is_nothing}
use Rattle.bq_label_glob.specs.Names.{names_in, is_wanted, glob}

or_true : (a : Bool) → (a || true) ≡ true
or_true true = refl
or_true false = refl

wanted_alone : (a : Bool) → ((a || false) && not false) ≡ a
wanted_alone true = refl
wanted_alone false = refl

-- ---- a list of which a test leaves some

module _ {X : Type 0} (f g : X → Bool) where
  same_filter : ((x : X) → f x ≡ g x) → (xs : List X) → filter f xs ≡ filter g xs
  same_filter e [] = refl
  same_filter e (x ∷ xs) = elim (cases_Bool (g x)) [
    | inl y ↦ rw (e x ∙ y, y) (ap (λ v. x ∷ v) (same_filter e xs))
    | inr n ↦ rw (e x ∙ n, n) (same_filter e xs)
  ]

  -- what passes f passes g, so it is among those that g leaves
  nothing_left : ((x : X) → f x ≡ true → g x ≡ true) → (xs : List X) → is_nothing (filter f xs) ≡ not (list_any f (filter g xs))
  nothing_left k [] = refl
  nothing_left k (x ∷ xs) = elim (cases_Bool (f x)) [
    | inl y ↦ rw (y, k x y) (rw y refl)
    | inr n ↦ elim (cases_Bool (g x)) [
      | inl y ↦ rw (n, y) (rw n (nothing_left k xs))
      | inr m ↦ rw (n, m) (nothing_left k xs)
    ]
  ]

-- ---- patterns

module _ (paths : List (List ℕ)) (packages : List BuildFile) (p : PackageParts) (all : List (List ℕ)) where
  abbrev gives_none : List ℕ → Bool
  gives_none q = is_nothing (glob paths packages p (q ∷ []) [])

  abbrev matches_none : List ℕ → Bool
  matches_none q = not (list_any (matches q) (glob paths packages p all []))

  -- some pattern of `all` matches each name that one of these matches
  abbrev AreOf : List (List ℕ) → Type 0
  AreOf qs = (n : List ℕ) → list_any (λ q. matches q n) qs ≡ true → list_any (λ q. matches q n) all ≡ true

  one_idle : (q : List ℕ) → ((n : List ℕ) → matches q n ≡ true → list_any (λ r. matches r n) all ≡ true) → gives_none q ≡ matches_none q
  unfolding glob is_wanted
  one_idle q k =
      ap is_nothing (same_filter (is_wanted (q ∷ []) []) (matches q) (λ n. wanted_alone (matches q n)) (names_in packages p paths))
      ∙ nothing_left (matches q) (is_wanted all []) (λ n m. rw (k n m) refl) (names_in packages p paths)

  some_idle : (qs : List (List ℕ)) → AreOf qs → list_any gives_none qs ≡ list_any matches_none qs
  some_idle [] k = refl
  some_idle (q ∷ qs) k =
      ap (λ (b : Bool). b || list_any gives_none qs) (one_idle q (λ n m. k n (ap (λ (b : Bool). b || list_any (λ r. matches r n) qs) m)))
      ∙ ap (λ (b : Bool). matches_none q || b) (some_idle qs (λ n m. k n (ap (λ (b : Bool). matches q n || b) m ∙ or_true (matches q n))))

  pub idle_by : {E : Type 0} (r : Result Bool E) (names : List (List ℕ)) → names ≡ glob paths packages p all [] → IfOk r (λ found. found ≡ list_any (λ q. not (list_any (matches q) names)) all) → IfOk r (λ found. found ≡ list_any gives_none all)
  idle_by (Ok found) names e h = h ∙ (ap (λ (ns : List (List ℕ)). list_any (λ q. not (list_any (matches q) ns)) all) e ∙ sym (some_idle all (λ n m. m)))
  idle_by (Err why) names e h = h
