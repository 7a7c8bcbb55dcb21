-- What the threads of a pool bring: each module at its number, one after another.
use Rattle.std.proofs.Common.{◌≡◌, ◌∙◌, ℕ, zero, suc, ◌+◌, ◌<◌, List, [], ◌∷◌, ◌++◌, All, length, map, take, get_or, Some, refl, sym, ap, subst, arith}
use Rattle.std.specs.Prelude.{slice_get}
use Rattle.std.proofs.lemmas.List.{map_push, take_more}
use Rattle.std.proofs.lemmas.Option.{slice_get_read}
use Rattle.bq_board.specs.Graph.{Loads}
use Rattle.bq_load_order.specs.Outcome.{outcome}
use Rattle.bq_load_order.specs.declared.outcome.Outcome.{Outcome}
use Rattle.bq_load_workers.specs.declared.pool.FinishedModule.{FinishedModule as Brought}
use Rattle.bq_load_module.specs.declared.outcome.LoadedModule.{LoadedModule}
use Rattle.bq_load_module.specs.declared.outcome.FailedModule.{FailedModule}
use Rattle.bq_load.specs.declared.pool.Evaluated.{Evaluated}
use Rattle.bq_load_discover.specs.declared.modules.Module.{Module}
use Rattle.bq_load.specs.Views.{ModuleView, FailedView, outcome_view}
use Rattle.bq_load.specs.Loading.{LoadingParts}
use Rattle.bq_load.specs.Evaluation.{means}
use Rattle.bq_load.specs.Results.{outcome_by, outcome_of, outcomes_from, outcomes}
use Rattle.bq_load.specs.Pool.{package_of_file, IsEvaluated, HaveFinished}

module _ (x : LoadingParts) (p : Loads) where
  outcome_from : (k : ℕ) (ss : List Module) (i : ℕ) (s : Module) → slice_get ss i ≡ Some s → slice_get (outcomes_from x p k ss) i ≡ Some (outcome_of x p (k + i) s)
  outcome_from k [] i s e = absurd (cc)
  outcome_from k (t ∷ ss) zero s e =
      let same : t ≡ s = cc in
      let here : k ≡ k + 0 = omega arith in
      ap (λ (n : ℕ). Some (outcome_of x p n t)) here ∙ ap (λ (u : Module). Some (outcome_of x p (k + 0) u)) same
  outcome_from k (t ∷ ss) (suc i) s e = let there : k + 1 + i ≡ k + suc i = omega arith in outcome_from (k + 1) ss i s e ∙ ap (λ (n : ℕ). Some (outcome_of x p n s)) there

  outcome_there : (m : ℕ) (s : Module) → slice_get x.modules m ≡ Some s → slice_get (outcomes x p) m ≡ Some (outcome_of x p m s)
  unfolding outcomes
  outcome_there m s e = let same : 0 + m ≡ m = omega arith in outcome_from 0 x.modules m s e ∙ ap (λ (n : ℕ). Some (outcome_of x p n s)) same

  -- a module with what it comes to by its outcome along loads
  pub evaluated_is : (m : ℕ) (s : Module) → m < length x.modules → s ≡ get_or x.modules m s → (along : Outcome ModuleView FailedView) → along ≡ outcome (means x) p m
      → (e : Evaluated) → e.module ≡ m → outcome_view e.outcome ≡ outcome_by x s along → e.package ≡ package_of_file (outcome_view e.outcome) → IsEvaluated x p e
  evaluated_is m s h read along is e number by own = record {
    outcome = subst (λ (n : ℕ). slice_get (outcomes x p) n ≡ Some (outcome_view e.outcome)) (sym number)
        (outcome_there m s (slice_get_read x.modules (length x.modules) m s refl h read) ∙ ap Some (sym (by ∙ ap (outcome_by x s) is)));
    «package» = own;
  }

  -- what a seat finished is what it gives
  pub have_finished : (before after : List ℕ) (bs : List (Brought LoadedModule FailedModule)) → after ≡ before ++ map (λ b. b.number) bs → (es : List Evaluated) → map (λ e. e.module) es ≡ map (λ b. b.number) bs
      → All (IsEvaluated x p) es → HaveFinished x p before after es
  have_finished before after bs joined es same right = record { joined = joined ∙ ap (λ (ns : List ℕ). before ++ ns) (sym same); right = right }

-- one more has its number
pub numbered_more : (bs : List (Brought LoadedModule FailedModule)) (i : ℕ) (b : Brought LoadedModule FailedModule) → i < length bs → b ≡ get_or bs i b → (old new : List Evaluated) (e : Evaluated) → e.module ≡ b.number → new ≡ old ++ e ∷ []
    → map (λ y. y.module) old ≡ map (λ b. b.number) (take i bs) → map (λ y. y.module) new ≡ map (λ b. b.number) (take (i + 1) bs)
numbered_more bs i b h read old new e is more so =
    let number : Brought LoadedModule FailedModule → ℕ = λ b. b.number in
    let own : Evaluated → ℕ = λ y. y.module in
    ap (map own) more ∙ map_push own old e ∙ ap (λ (ns : List ℕ). ns ++ own e ∷ []) so ∙ ap (λ (n : ℕ). map number (take i bs) ++ n ∷ []) (is ∙ ap number read)
    ∙ sym (ap (map number) (take_more bs i b h) ∙ map_push number (take i bs) (get_or bs i b))
