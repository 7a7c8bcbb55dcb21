-- A module that loads another reaches what that one reaches.
use Rattle.std.proofs.Common.{◌≡◌, ◌∙◌, ◌⊎◌, inl, inr, ℕ, ◌==◌, Bool, true, false, cond, ◌||◌, ◌&&◌, List, [], ◌∷◌, fold, Option, Some, None, is_some, IsSome, slice_get, nat_lt, Contains, refl, sym, ap, subst, arith, eq-eqb, eqb-true}
use Rattle.std.proofs.lemmas.List.Elements.{Contains-append_cases, Contains-push_cases}
use Rattle.bq_base.proofs.Choices.{left_of, right_of}
use Rattle.bq_resolve_scope.specs.Names.{Name}
use Rattle.bq_resolve_scope.specs.declared.file.ResolvedFile.{ResolvedFile}
use Rattle.bq_value.specs.Cells.{StoreView, FrozenCells, FrozenView, Modules, module_at, globals_at, frozen, placed, added, loading}
use Rattle.bq_value.specs.Datum.{Datum}
use Rattle.bq_value.proofs.Cases.{brought, globals_of}
use Rattle.bq_eval_spec.specs.Slots.{frozen_unit, globals_among, frozen_units}
use Rattle.bq_eval_spec.proofs.Cases.{or_else}
use Rattle.bq_eval.specs.Calling.{HostCalls}
use Rattle.bq_eval.specs.Module.{first_store}
use Rattle.bq_eval_laws.specs.Evaluations.Files.{HostTakes}
use Rattle.bq_eval_laws.specs.Evaluations.Callable.{IsCallable, FunctionsStayCallable}
use Rattle.bq_builtin_laws.specs.Steps.Steps.{Stays}
use Rattle.bq_eval_laws.proofs.Evaluations.Files.{first_own, freezes}

-- ---- tests

or_turn : (a b c : Bool) → (a || (b || c)) ≡ (b || (a || c))
or_turn true true c = refl
or_turn true false c = refl
or_turn false b c = refl

or_regroup : (a b c : Bool) → ((a || b) || c) ≡ (b || (a || c))
or_regroup true true c = refl
or_regroup true false c = refl
or_regroup false b c = refl

or_group : (a b c : Bool) → ((a || b) || c) ≡ (a || (b || c))
or_group true b c = refl
or_group false b c = refl

or_none : (b : Bool) → (b || false) ≡ b
or_none true = refl
or_none false = refl

either : (a b : Bool) → (a ≡ true) ⊎ (b ≡ true) → (a || b) ≡ true
either true b h = refl
either false b (inl h) = absurd (cc)
either false b (inr h) = h

both : (a b : Bool) → a ≡ true → b ≡ true → (a && b) ≡ true
both true b e h = h
both false b e h = absurd (cc)

some_if : {A : Type 0} (b : Bool) (x : A) (o : Option A) → is_some (cond b (Some x) o) ≡ (b || is_some o)
some_if true x o = refl
some_if false x o = refl

-- ---- modules by their numbers

pub has : ℕ → Modules → Bool
has n ms = is_some (module_at n ms)

module _ (n : ℕ) where
  pub has_none : has n [] ≡ false
  unfolding has
  has_none = refl

  pub has_first : (m : ℕ × FrozenCells) (ms : Modules) → has n (m ∷ ms) ≡ ((n == m.0) || has n ms)
  unfolding has
  has_first m ms = some_if (n == m.0) m.1 (module_at n ms)

  place_by : (m k : ℕ × FrozenCells) (ms : Modules) (b : Bool) → has n (placed m ms) ≡ ((n == m.0) || has n ms) → has n (cond b (m ∷ k ∷ ms) (k ∷ placed m ms)) ≡ ((n == m.0) || has n (k ∷ ms))
  place_by m k ms true h = has_first m (k ∷ ms)
  place_by m k ms false h =
      has_first k (placed m ms) ∙ ap (λ (z : Bool). (n == k.0) || z) h ∙ or_turn (n == k.0) (n == m.0) (has n ms) ∙ ap (λ (z : Bool). (n == m.0) || z) (sym (has_first k ms))

  has_placed : (m : ℕ × FrozenCells) (ms : Modules) → has n (placed m ms) ≡ ((n == m.0) || has n ms)
  has_placed m [] = has_first m []
  has_placed m (k ∷ ms) = place_by m k ms (nat_lt m.0 k.0) (has_placed m ms)

  -- one that is there already is not taken again
  there_already : (m : ℕ × FrozenCells) (ms : Modules) → has m.0 ms ≡ true → (b : Bool) → (n == m.0) ≡ b → has n ms ≡ (b || has n ms)
  there_already m ms h true e = ap (λ (z : ℕ). has z ms) (eqb-true n m.0 e) ∙ h
  there_already m ms h false e = refl

  add_by : (m : ℕ × FrozenCells) (ms : Modules) (b : Bool) → has m.0 ms ≡ b → has n (cond b ms (placed m ms)) ≡ ((n == m.0) || has n ms)
  add_by m ms true h = there_already m ms h (n == m.0) refl
  add_by m ms false h = has_placed m ms

  has_added : (m : ℕ × FrozenCells) (ms : Modules) → has n (added ms m) ≡ ((n == m.0) || has n ms)
  unfolding has
  has_added m ms = add_by m ms (has m.0 ms) refl

  has_all : (ms qs : Modules) → has n (fold added ms qs) ≡ (has n ms || has n qs)
  unfolding has
  has_all ms [] = sym (or_none (has n ms))
  has_all ms (q ∷ qs) =
      has_all (added ms q) qs ∙ ap (λ (z : Bool). z || has n qs) (has_added q ms) ∙ or_regroup (n == q.0) (has n ms) (has n qs) ∙ ap (λ (z : Bool). has n ms || z) (sym (has_first q qs))

  -- ---- frozen modules, and what they reach

  some_globals : (o : Option FrozenCells) → is_some (globals_of o) ≡ is_some o
  some_globals None = refl
  some_globals (Some c) = refl

  pub has_globals : (f : FrozenView) → is_some (globals_at f n) ≡ has n (brought f)
  unfolding has globals_at
  has_globals f =
      some_if (n == f.own) f.cells.globals (globals_of (module_at n f.reached)) ∙ ap (λ (z : Bool). (n == f.own) || z) (some_globals (module_at n f.reached)) ∙ sym (has_first (f.own, f.cells) f.reached)

  pub some_else : {A : Type 0} (x y : Option A) → is_some (or_else x y) ≡ (is_some x || is_some y)
  some_else None y = refl
  some_else (Some x) y = refl

  has_loaded : (s : StoreView) (fs : List FrozenView) → has n (fold loading s fs).loaded ≡ (has n s.loaded || is_some (globals_among n fs))
  unfolding globals_among
  has_loaded s [] = sym (or_none (has n s.loaded))
  has_loaded s (f ∷ fs) =
      has_loaded (loading s f) fs ∙ ap (λ (z : Bool). z || is_some (globals_among n fs)) (has_all s.loaded (brought f)) ∙ or_group (has n s.loaded) (has n (brought f)) (is_some (globals_among n fs))
      ∙ ap (λ (z : Bool). has n s.loaded || z) (ap (λ (z : Bool). z || is_some (globals_among n fs)) (sym (has_globals f)) ∙ sym (some_else (globals_at f n) (globals_among n fs)))

  pub has_at_first : (number : ℕ) (loaded : List FrozenView) → has n (first_store number loaded).loaded ≡ is_some (globals_among n loaded)
  unfolding has
  has_at_first number loaded = has_loaded (record { own = number; cells = []; loaded = [] }) loaded

  none_in : (f : FrozenView) → Contains [] f → ⊥
  none_in f c = omega arith

  -- what one of these modules reaches is reached by them
  pub among : (f : FrozenView) → IsSome (globals_at f n) → (others : List FrozenView) → Contains others f → IsSome (globals_among n others)
  unfolding globals_among
  among f h [] c = absurd (none_in f c)
  among f h (g ∷ others) c = elim (Contains-append_cases (g ∷ []) others f c) [
    | inl one ↦ elim (Contains-push_cases [] g f one) [
      | inl nothing ↦ absurd (none_in f nothing)
      | inr same ↦ some_else (globals_at g n) (globals_among n others) ∙ either (is_some (globals_at g n)) (is_some (globals_among n others)) (inl (subst (λ k. IsSome (globals_at k n)) (sym same) h))
    ]
    | inr later ↦ some_else (globals_at g n) (globals_among n others) ∙ either (is_some (globals_at g n)) (is_some (globals_among n others)) (inr (among f h others later))
  ]

-- ---- their functions

abbrev has_file : Option (Option ResolvedFile) → Bool
has_file (Some (Some file)) = true
has_file (Some None) = false
has_file None = false

some_unit : (c : Option (Option ResolvedFile)) (v : Option (List Datum)) → is_some (frozen_unit c v) ≡ (has_file c && is_some v)
some_unit (Some (Some file)) (Some v) = refl
some_unit (Some (Some file)) None = refl
some_unit (Some None) v = refl
some_unit None v = refl

module _ {W : Type 0} (names : List Name) (host : HostCalls W) (hosts : HostTakes host) where
  module _ (code : List (Option ResolvedFile)) (number : ℕ) (file : ResolvedFile) (is : slice_get code number ≡ Some (Some file)) (loaded : List FrozenView) (home : ℕ) (reach : IsCallable code number loaded home) where
    of_unit : IsSome (frozen_units code loaded home) → (has_file (slice_get code home) && is_some (globals_among home loaded)) ≡ true
    unfolding frozen_units
    of_unit h = sym (some_unit (slice_get code home) (globals_among home loaded)) ∙ h

    file_there : (home ≡ number) ⊎ IsSome (frozen_units code loaded home) → has_file (slice_get code home) ≡ true
    file_there (inl same) = ap (λ (z : ℕ). has_file (slice_get code z)) same ∙ ap has_file is
    file_there (inr h) = left_of (has_file (slice_get code home)) (is_some (globals_among home loaded)) (of_unit h)

    -- the number is that of the module itself, or of one that it reached at first
    was_there : (home ≡ number) ⊎ IsSome (frozen_units code loaded home) → ((home == number) ≡ true) ⊎ (has home (first_store number loaded).loaded ≡ true)
    was_there (inl same) = inl (eq-eqb home number same)
    was_there (inr h) = inr (has_at_first home number loaded ∙ right_of (has_file (slice_get code home)) (is_some (globals_among home loaded)) (of_unit h))

    is_reached : (s : StoreView) (ns : List Name) (gs : List Datum) → Stays (first_store number loaded) s → IsSome (globals_at (frozen s ns gs) home)
    is_reached s ns gs stay =
        let own : (home == s.own) ≡ (home == number) = ap (λ (z : ℕ). home == z) (stay.own ∙ first_own number loaded) in
        let reached : has home s.loaded ≡ has home (first_store number loaded).loaded = ap (has home) stay.modules in
        has_globals home (frozen s ns gs) ∙ has_first home (s.own, (frozen s ns gs).cells) s.loaded
        ∙ (λ i. own i || reached i) ∙ either (home == number) (has home (first_store number loaded).loaded) (was_there reach)

    still_callable : (f : FrozenView) → IsSome (globals_at f home) → (loader : ℕ) (others : List FrozenView) → Contains others f → IsCallable code loader others home
    unfolding frozen_units
    still_callable f h loader others c =
        inr (some_unit (slice_get code home) (globals_among home others) ∙ both (has_file (slice_get code home)) (is_some (globals_among home others)) (file_there reach) (among home f h others c))

  pub stay_callable : FunctionsStayCallable names host
  stay_callable code number file is loaded imports kept limit home reach =
      freezes names host hosts code number file loaded imports kept (λ f. (loader : ℕ) (others : List FrozenView) → Contains others f → IsCallable code loader others home)
      (λ s ns gs stay. still_callable code number file is loaded home reach (frozen s ns gs) (is_reached code number file is loaded home reach s ns gs stay)) limit
