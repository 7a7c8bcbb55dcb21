-- A module's value reaches the modules that loads lead to from it.
use Rattle.std.proofs.Common.{◌≡◌, ◌∙◌, ◌⊎◌, inl, inr, ℕ, zero, suc, ◌==◌, ◌||◌, Bool, true, false, cond, List, [], ◌∷◌, length, map, Option, Some, None, IsSome, is_some, Result, Ok, Err, slice_get, option_map, option_and_then, refl, sym, ap, subst, eqb-true}
use Rattle.std.proofs.lemmas.Bool.{cases_Bool}
use Rattle.bq_base.specs.declared.fault.Fault.{Fault}
use Rattle.bq_base.specs.declared.fault.FaultKind.{FaultKind}
use Rattle.bq_base.specs.declared.fault.LoadFault.{LoadFault}
use Rattle.bq_label.specs.Label.{LabelParts}
use Rattle.bq_resolve_scope.specs.Names.{Name}
use Rattle.bq_resolve_scope.specs.declared.file.ResolvedFile.{ResolvedFile}
use Rattle.bq_value.specs.Cells.{StoreView, FrozenView, globals_at, frozen}
use Rattle.bq_value.specs.Datum.{Datum}
use Rattle.bq_board.specs.Counts.{Has}
use Rattle.bq_board.specs.Cycles.{is_cyclic, starts_path, Reaches}
use Rattle.bq_board.specs.Depth.{max_load_depth, is_too_deep}
use Rattle.bq_board.specs.Graph.{Loads, row}
use Rattle.bq_board.proofs.Lemmas.{head_has, tail_has}
use Rattle.bq_builtin_laws.specs.Steps.Steps.{Stays}
use Rattle.bq_eval_spec.specs.Slots.{globals_among}
use Rattle.bq_eval.specs.Module.{Ended, evaluated, failed, ended, first_store, kept_after, module_run}
use Rattle.bq_load_module.specs.Run.{without_cells}
use Rattle.bq_eval_laws.specs.Evaluations.Files.{FrozenAre}
use Rattle.bq_eval_laws.proofs.Evaluations.Files.{first_own, freezes}
use Rattle.bq_eval_laws.proofs.Evaluations.Callable.{has, has_none, has_first, has_globals, has_at_first, some_else}
use Rattle.bq_package.specs.Calls.{meaning, package_in}
use Rattle.bq_eval_laws.proofs.BuildFiles.Calls.{calls_own}
use Rattle.bq_package_target.specs.Package.{PackageTargets, finished}
use Rattle.bq_load_front.specs.declared.front.Front.{Front}
use Rattle.bq_load_discover.specs.declared.modules.Module.{Module}
use Rattle.bq_load_order.specs.Outcome.{first, load_values, own, evaluated as by_values, by_loads, outcome_within, outcome}
use Rattle.bq_load_order.specs.declared.outcome.Outcome.{Outcome}
use Rattle.bq_load_order.specs.declared.outcome.Outcome.TheVariants as o
use Rattle.bq_load_order.proofs.Keeping.{split}
use Rattle.bq_load.specs.Evaluation.{kept_first, evaluation, module_with, module_by, module_after, loaded_parts, by_imports, file_means, by_front, by_module, means}
use Rattle.bq_load.specs.Imports.{imports}
use Rattle.bq_load.specs.ResolvedFiles.{resolved_files}
use Rattle.bq_load.specs.Loading.{LoadingParts}
use Rattle.bq_load.specs.Views.{ModuleView, FailedView}
use Rattle.bq_load_laws.specs.Evaluations.{ValuesReachWhatIsLoaded}

-- ---- tests

second : (a b : Bool) → (a || b) ≡ true → a ≡ false → b ≡ true
second true b h n = absurd (cc)
second false b h n = h

either : (a b : Bool) → (a || b) ≡ true → (a ≡ true) ⊎ (b ≡ true)
either true b h = inl refl
either false b h = inr h

-- ---- a frozen module

abbrev pub frozen_of : ModuleView → FrozenView
frozen_of v = v.frozen

-- the module has this number, and reaches itself and what these reach
pub record IsWithin (number : ℕ) (loaded : List FrozenView) (f : FrozenView) : Type 0 where
  number_is : f.own ≡ number
  only : (home : ℕ) → IsSome (globals_at f home) → (home ≡ number) ⊎ IsSome (globals_among home loaded)

module _ (number : ℕ) (loaded : List FrozenView) where
  -- the store reached what it reached at first
  of_store : (s : StoreView) (ns : List Name) (gs : List Datum) → Stays (first_store number loaded) s → IsWithin number loaded (frozen s ns gs)
  of_store s ns gs stay =
      let home_is : s.own ≡ number = stay.own ∙ first_own number loaded in
      record {
        number_is = home_is;
        only = λ home h.
            let f : FrozenView = frozen s ns gs in
            let whole : ((home == s.own) || has home s.loaded) ≡ true = sym (has_globals home f ∙ has_first home (s.own, f.cells) s.loaded) ∙ h in
            elim (cases_Bool (home == s.own)) [
              | inl y ↦ inl (eqb-true home s.own y ∙ home_is)
              | inr n ↦ inr (sym (ap (has home) stay.modules ∙ has_at_first home number loaded) ∙ second (home == s.own) (has home s.loaded) whole n)
            ];
      }

  -- a BUILD file's module keeps nothing
  of_none : (f : FrozenView) → IsWithin number loaded f → IsWithin number loaded (without_cells f.own)
  of_none f within =
      record {
        number_is = within.number_is;
        only = λ home h.
            let g : FrozenView = without_cells f.own in
            let whole : ((home == f.own) || has home []) ≡ true = sym (has_globals home g ∙ has_first home (f.own, g.cells) []) ∙ h in
            elim (either (home == f.own) (has home []) whole) [
              | inl y ↦ inl (eqb-true home f.own y ∙ within.number_is)
              | inr y ↦ let no : false ≡ true = sym (has_none home) ∙ y in absurd (cc)
            ];
      }

-- ---- what a module evaluates to

abbrev good : ModuleView → Result ModuleView FailedView
good v = Ok v

one_view : (v w : ModuleView) → good v ≡ good w → v ≡ w
one_view v w e = cc

module _ (x : LoadingParts) (k : ℕ) (modules : List ModuleView) (v : ModuleView) where
  abbrev loaded : List FrozenView
  loaded = map frozen_of modules

  by_package : (f : FrozenView) (prints : List (List ℕ)) (q : Option PackageTargets) → IsWithin k loaded f → good (module_with f prints q) ≡ good v → IsWithin k loaded v.frozen
  by_package f prints None h is = subst (λ (z : ModuleView). IsWithin k loaded z.frozen) (one_view (module_with f prints None) v is) h
  by_package f prints (Some q) h is = subst (λ (z : ModuleView). IsWithin k loaded z.frozen) (one_view (module_with f prints (Some q)) v is) (of_none k loaded f h)

  by_end : (e : Ended) (p : Option PackageTargets) → FrozenAre e (IsWithin k loaded) → module_by e p ≡ Ok v → IsWithin k loaded v.frozen
  by_end (failed why prints) p h is = absurd (cc)
  by_end (evaluated f prints) p h is = by_package f prints (option_map finished p) h is

  by_run : (l : LabelParts) (file : ResolvedFile) (imported : List Datum) → module_after file imported (evaluation x k l file modules imported) ≡ Ok v → IsWithin k loaded v.frozen
  unfolding module_after evaluation
  by_run l file imported is =
      by_end (ended file imported (module_run x.names meaning (resolved_files x.modules) k file loaded imported x.limit (kept_first x l)))
      (option_and_then package_in (kept_after (module_run x.names meaning (resolved_files x.modules) k file loaded imported x.limit (kept_first x l))))
      (freezes x.names meaning calls_own (resolved_files x.modules) k file loaded imported (kept_first x l) (IsWithin k loaded) (of_store k loaded) x.limit) is

  by_symbols : (l : LabelParts) (file : ResolvedFile) (r : Result (List Datum) (Fault LoadFault)) → by_imports x k l file modules r ≡ Ok v → IsWithin k loaded v.frozen
  by_symbols l file (Err why) is = absurd (cc)
  by_symbols l file (Ok imported) is = by_run l file imported is

  of_front : (l : LabelParts) (r : Result Front (Fault FaultKind)) → by_front x k l modules r ≡ Ok v → IsWithin k loaded v.frozen
  unfolding file_means
  of_front l (Err why) is = absurd (cc)
  of_front l (Ok front) is = by_symbols l front.file (imports (loaded_parts x front modules) [] front.file.loads front.loads) is

  of_module : (s : Option Module) → by_module x k modules s ≡ Ok v → IsWithin k loaded v.frozen
  of_module None is = absurd (cc)
  of_module (Some s) is = of_front s.label s.front is

  pub is_within : means x k modules ≡ Ok v → IsWithin k loaded v.frozen
  unfolding means
  is_within is = of_module (slice_get x.modules k) is

-- ---- the values of loads

module _ (at : ℕ → Outcome ModuleView FailedView) (home : ℕ) where
  -- one of these loads has a value that reaches the module `home`
  pub record Through (xs : List ℕ) : Type 0 where
    pub load : ℕ
    pub among : Has xs load
    pub value : ModuleView
    pub is : at load ≡ o.Loaded value
    pub reaches : IsSome (globals_at value.frozen home)

  none_reach : (vs : List ModuleView) → [] ≡ vs → IsSome (globals_among home (map frozen_of vs)) → ⊥
  unfolding globals_among
  none_reach vs e h =
      let no : IsSome (globals_among home []) = subst (λ (z : List ModuleView). IsSome (globals_among home (map frozen_of z))) (sym e) h in
      absurd (cc)

  first_or_later : (v : ModuleView) (ws : List ModuleView) → is_some (globals_among home (map frozen_of (v ∷ ws))) ≡ (is_some (globals_at v.frozen home) || is_some (globals_among home (map frozen_of ws)))
  unfolding globals_among
  first_or_later v ws = some_else home (globals_at v.frozen home) (globals_among home (map frozen_of ws))

  abbrev these : List ModuleView → Result (List ModuleView) ℕ
  these vs = Ok vs

  nothing : (vs : List ModuleView) → these [] ≡ these vs → [] ≡ vs
  nothing vs e = cc

  pub through : (xs : List ℕ) (vs : List ModuleView) → load_values at xs ≡ Ok vs → IsSome (globals_among home (map frozen_of vs)) → Through xs
  through [] vs e h = absurd (none_reach vs (nothing vs e) h)
  through (x ∷ xs) vs e h =
      let s = split (at x) x (load_values at xs) vs e in
      let here : IsSome (globals_among home (map frozen_of (s.0 ∷ s.1))) = subst (λ (z : List ModuleView). IsSome (globals_among home (map frozen_of z))) (sym s.4) h in
      elim (either (is_some (globals_at s.0.frozen home)) (is_some (globals_among home (map frozen_of s.1))) (sym (first_or_later s.0 s.1) ∙ here)) [
        | inl y ↦ record { load = x; among = head_has x xs; value = s.0; is = s.2; reaches = y }
        | inr y ↦ let r = through xs s.1 s.3 y in record { load = r.load; among = tail_has x xs r.load r.among; value = r.value; is = r.is; reaches = r.reaches }
      ]

-- ---- a value, by one level of the recursion

module _ {V F : Type 0} (gives : ℕ → List V → Result V F) (p : Loads) (at : ℕ → Outcome V F) (m : ℕ) (v : V) where
  record IsBy : Type 0 where
    loads : List V
    are : load_values at (row p m) ≡ Ok loads
    is : gives m loads ≡ Ok v

  abbrev a_value : V → Outcome V F
  a_value w = o.Loaded w

  same_value : (w : V) → a_value w ≡ a_value v → w ≡ v
  same_value w e = cc

  by_result : (vs : List V) → load_values at (row p m) ≡ Ok vs → (r : Result V F) → gives m vs ≡ r → own r ≡ o.Loaded v → IsBy
  by_result vs are (Ok w) e is = record { loads = vs; are = are; is = e ∙ ap (λ (z : V). Ok z) (same_value w is) }
  by_result vs are (Err why) e is = absurd (cc)

  by_loaded : (r : Result (List V) ℕ) → load_values at (row p m) ≡ r → by_values (gives m) r ≡ o.Loaded v → IsBy
  by_loaded (Ok vs) e is = by_result vs e (gives m vs) refl is
  by_loaded (Err l) e is = absurd (cc)

  by_cases : (cyclic deep : Bool) (c d : ℕ) → cond cyclic (o.Cyclic c) (cond deep (o.TooDeep d) (by_values (gives m) (load_values at (row p m)))) ≡ o.Loaded v → IsBy
  by_cases true deep c d is = absurd (cc)
  by_cases false true c d is = absurd (cc)
  by_cases false false c d is = by_loaded (load_values at (row p m)) refl is

  is_by : by_loads gives p at m ≡ o.Loaded v → IsBy
  unfolding by_loads
  is_by is = by_cases (is_cyclic p m) (is_too_deep p m) (first (is_cyclic p) (row p m)) (first (starts_path p max_load_depth) (row p m)) is

-- ---- along loads

module _ (x : LoadingParts) (p : Loads) where
  within : (n m : ℕ) (v : ModuleView) → outcome_within (means x) p n m ≡ o.Loaded v → (home : ℕ) → IsSome (globals_at v.frozen home) → Reaches p m home
  unfolding outcome_within
  within zero m v is home h = absurd (cc)
  within (suc n) m v is home h =
      let at : ℕ → Outcome ModuleView FailedView = outcome_within (means x) p n in
      let by = is_by (means x) p at m v is in
      let inside = is_within x m by.loads v by.is in
      elim (inside.only home h) [
        | inl same ↦ (zero, sym same)
        | inr among ↦
            let t = through at home (row p m) by.loads by.are among in
            let r = within n t.load t.value t.is home t.reaches in
            (suc r.0, (t.load, t.among, r.1))
      ]

  pub reaches : (m : ℕ) (v : ModuleView) → outcome (means x) p m ≡ o.Loaded v → (home : ℕ) → IsSome (globals_at v.frozen home) → Reaches p m home
  unfolding outcome
  reaches m v is home h = within (suc (length p)) m v is home h

pub values_reach : ValuesReachWhatIsLoaded
values_reach x p m v is home h = reaches x p m v is home h
