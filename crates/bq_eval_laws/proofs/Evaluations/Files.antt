-- Files have numbers of steps and outcomes of their own, and leave other modules as they were.
use Rattle.std.proofs.Common.{◌≡◌, ◌≢◌, ◌∙◌, ◌<◌, ◌≤◌, ◌⊎◌, inl, inr, ℕ, ◌+◌, ◌-◌, cond, List, [], ◌∷◌, fold, slice_get, Option, refl, sym, ap, subst, arith, ne_eqb}
use Rattle.std.proofs.lemmas.Bool.{cases_lt}
use Rattle.bq_resolve_scope.specs.Names.{Name}
use Rattle.bq_resolve_scope.specs.declared.file.ResolvedFile.{ResolvedFile}
use Rattle.bq_value.specs.Cells.{StoreView, FrozenView, module_at, cell_of, content_at, frozen_at, frozen, loading}
use Rattle.bq_value.specs.Datum.{Datum}
use Rattle.bq_builtin_machine.specs.Action.{Run, done, stopped}
use Rattle.bq_builtin_machine.specs.State.{State, started}
use Rattle.bq_eval_spec.specs.Frame.{Frame}
use Rattle.bq_eval_spec.specs.Slots.{module_meaning, frozen_units}
use Rattle.bq_eval.specs.Calling.{HostCalls}
use Rattle.bq_eval.specs.Runtime.{primitives}
use Rattle.bq_eval.specs.Module.{Ended, evaluated, failed, first_store, frozen_values, ended, module_run}
use Rattle.bq_eval_laws.proofs.ModuleRules.{module_rule}
use Rattle.bq_eval_laws.specs.Evaluations.Files.{HostTakes, prints_of, EndsShort, FileTakes, FrozenAre, ends, FilesTakeTheirSteps, OtherModulesStay}
use Rattle.bq_builtin_laws.specs.Steps.Steps.{hosted, leaving, printed, IsCutShort, Stays, Leaves, Takes}
use Rattle.bq_eval_laws.proofs.Evaluations.Hosts.{TakesItsSteps, take_steps, lines_take}

module _ {W : Type 0} (file : ResolvedFile) (imports : List Datum) where
  ended_leaving : (n : ℕ) (r : Run (State × W) Frame) → ended file imports (leaving hosted n r) ≡ ended file imports r
  ended_leaving n (done globals s) = refl
  ended_leaving n (stopped why) = refl

  prints_printed : (o : Run (State × W) Frame) → printed hosted o ≡ prints_of (ended file imports o)
  prints_printed (done globals s) = refl
  prints_printed (stopped why) = refl

  ends_short : (r : Run (State × W) Frame) (prints : List (List ℕ)) → IsCutShort hosted r prints → EndsShort (ended file imports r) prints
  ends_short (done globals s) prints h = h
  ends_short (stopped why) prints h = h

-- ---- cells of other modules

loading_own : (s : StoreView) (loaded : List FrozenView) → (fold loading s loaded).own ≡ s.own
loading_own s [] = refl
loading_own s (f ∷ fs) = loading_own (loading s f) fs

pub first_own : (number : ℕ) (loaded : List FrozenView) → (first_store number loaded).own ≡ number
first_own number loaded = loading_own (record { own = number; cells = []; loaded = [] }) loaded

frozen_outside : (f : FrozenView) (home number : ℕ) → home ≢ f.own → frozen_at f home number ≡ cell_of number (module_at home f.reached)
unfolding frozen_at
frozen_outside f home number apart = ap (λ b. cond b (slice_get f.cells.cells number) (cell_of number (module_at home f.reached))) (ne_eqb home f.own apart)

content_outside : (s : StoreView) (home number : ℕ) → home ≢ s.own → content_at s home number ≡ cell_of number (module_at home s.loaded)
unfolding content_at
content_outside s home number apart = ap (λ b. cond b (slice_get s.cells number) (cell_of number (module_at home s.loaded))) (ne_eqb home s.own apart)

module _ (first : StoreView) (home cell : ℕ) (apart : home ≢ first.own) where
  stays_in : (s : StoreView) (names : List Name) (gs : List Datum) → Stays first s → frozen_at (frozen s names gs) home cell ≡ content_at first home cell
  stays_in s names gs h =
      frozen_outside (frozen s names gs) home cell (λ is. apart (is ∙ h.own)) ∙ (ap (λ ms. cell_of cell (module_at home ms)) h.modules ∙ sym (content_outside first home cell apart))

short_stays : (e : Ended) (prints : List (List ℕ)) (P : FrozenView → Type 0) → EndsShort e prints → FrozenAre e P
short_stays (evaluated f ps) prints P h = absurd h
short_stays (failed fault ps) prints P h = tt

module _ {W : Type 0} (names : List Name) (host : HostCalls W) (hosts : HostTakes host)
    (code : List (Option ResolvedFile)) (number : ℕ) (file : ResolvedFile) (loaded : List FrozenView) (imports : List Datum) (kept : W) where
  abbrev at_start : State × W
  at_start = (started (first_store number loaded) 0, kept)

  run_takes : Takes hosted (module_meaning (primitives names host) (frozen_units code loaded) number file imports) at_start
  run_takes = module_rule (primitives names host) (TakesItsSteps W) (take_steps names host hosts) (lines_take names host hosts) (frozen_units code loaded) number file imports at_start

  file_enough : (limit : ℕ) → run_takes.steps ≤ limit → ends names host code number file loaded imports kept limit ≡ ended file imports run_takes.outcome
  unfolding module_run
  file_enough limit few =
      let at : limit ≡ run_takes.steps + (limit - run_takes.steps) = omega (arith, few) in
      ap (ends names host code number file loaded imports kept) at ∙ (ap (ended file imports) (run_takes.enough (limit - run_takes.steps)) ∙ ended_leaving file imports (limit - run_takes.steps) run_takes.outcome)

  file_short : (limit : ℕ) → limit < run_takes.steps → EndsShort (ends names host code number file loaded imports kept limit) (prints_of (ended file imports run_takes.outcome))
  unfolding module_run
  file_short limit more =
      subst (EndsShort (ends names host code number file loaded imports kept limit)) (prints_printed file imports run_takes.outcome)
      (ends_short file imports (module_run names host code number file loaded imports limit kept) (printed hosted run_takes.outcome) (run_takes.short limit more))

  pub file_takes : FileTakes (ends names host code number file loaded imports kept)
  file_takes = record { steps = run_takes.steps; outcome = ended file imports run_takes.outcome; enough = file_enough; short = file_short }

  -- what holds of each store that no action changes holds of what is frozen
  module _ (P : FrozenView → Type 0) (so : (s : StoreView) (ns : List Name) (gs : List Datum) → Stays (first_store number loaded) s → P (frozen s ns gs)) where
    of_run : (r : Run (State × W) Frame) → Leaves hosted (first_store number loaded) r → FrozenAre (ended file imports r) P
    of_run (done globals s) h = so s.0.store file.globals (frozen_values file imports globals) h
    of_run (stopped why) h = tt

    freezes_by : (limit : ℕ) → (limit < run_takes.steps) ⊎ (run_takes.steps ≤ limit) → FrozenAre (ends names host code number file loaded imports kept limit) P
    freezes_by limit (inl more) = short_stays (ends names host code number file loaded imports kept limit) (prints_of (ended file imports run_takes.outcome)) P (file_short limit more)
    freezes_by limit (inr few) = subst (λ e. FrozenAre e P) (sym (file_enough limit few)) (of_run run_takes.outcome run_takes.leaves)

    pub freezes : (limit : ℕ) → FrozenAre (ends names host code number file loaded imports kept limit) P
    freezes limit = freezes_by limit (cases_lt limit run_takes.steps)

  pub others_stay : (limit home cell : ℕ) → home ≢ number → FrozenAre (ends names host code number file loaded imports kept limit) (λ f. frozen_at f home cell ≡ content_at (first_store number loaded) home cell)
  others_stay limit home cell apart =
      freezes (λ f. frozen_at f home cell ≡ content_at (first_store number loaded) home cell)
      (λ s ns gs h. stays_in (first_store number loaded) home cell (λ is. apart (is ∙ first_own number loaded)) s ns gs h) limit

module _ {W : Type 0} (names : List Name) (host : HostCalls W) (hosts : HostTakes host) where
  pub files_take : FilesTakeTheirSteps names host
  files_take code number file loaded imports kept = file_takes names host hosts code number file loaded imports kept

  pub modules_stay : OtherModulesStay names host
  modules_stay code number file loaded imports kept limit home cell apart = others_stay names host hosts code number file loaded imports kept limit home cell apart
