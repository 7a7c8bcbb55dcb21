-- The outcomes of modules have the packages that their files made.
use Rattle.std.proofs.Common.{◌≡◌, ℕ, Bool, true, false, cond, List, Some, Result, Ok, Err, slice_get, sym, subst}
use Rattle.std.specs.Prelude.{IfOk}
use Rattle.bq_board.specs.Graph.{Loads, row}
use Rattle.bq_board.specs.Cycles.{is_cyclic, starts_path}
use Rattle.bq_board.specs.Depth.{max_load_depth, is_too_deep}
use Rattle.bq_load_order.specs.Outcome.{first, load_values, own, evaluated, by_loads, outcome}
use Rattle.bq_load_order.specs.declared.outcome.Outcome.{Outcome}
use Rattle.bq_load_order.specs.declared.outcome.Outcome.TheVariants as o
use Rattle.bq_load_order.proofs.Solution.{outcome_is}
use Rattle.bq_load_front.specs.Parsed.{kind_of}
use Rattle.bq_load_discover.specs.declared.modules.Module.{Module}
use Rattle.bq_load.specs.Views.{ModuleView, FailedView}
use Rattle.bq_load.specs.Loading.{LoadingParts}
use Rattle.bq_load.specs.Evaluation.{means}
use Rattle.bq_load.specs.Results.{result_of}
use Rattle.bq_load_laws.specs.Packages.Packages.{OutcomesHaveTheirPackages}
use Rattle.bq_load_laws.proofs.Packages.Made.{Own, made}

module _ (x : LoadingParts) (p : Loads) (m : ℕ) (s : Module) (e : slice_get x.modules m ≡ Some s) where
  abbrev IsOwn : ModuleView → Type 0
  IsOwn = Own (kind_of s.label) s.label

  abbrev Holds : Outcome ModuleView FailedView → Type 0
  Holds outcome = IfOk (result_of x s.front outcome) IsOwn

  by_result : (r : Result ModuleView FailedView) → IfOk r IsOwn → Holds (own r)
  by_result (Ok v) h = h
  by_result (Err why) h = tt

  by_values : (vs : Result (List ModuleView) ℕ) → Holds (evaluated (means x m) vs)
  by_values (Ok vs) = by_result (means x m vs) (made x m vs s e)
  by_values (Err l) = tt

  by_cases : (cyclic deep : Bool) (k l : ℕ) (vs : Result (List ModuleView) ℕ) → Holds (cond cyclic (o.Cyclic k) (cond deep (o.TooDeep l) (evaluated (means x m) vs)))
  by_cases true deep k l vs = tt
  by_cases false true k l vs = tt
  by_cases false false k l vs = by_values vs

  pub has_its_own : Holds (outcome (means x) p m)
  unfolding by_loads
  has_its_own =
      subst Holds (sym (outcome_is (means x) p m))
      (by_cases (is_cyclic p m) (is_too_deep p m) (first (is_cyclic p) (row p m)) (first (starts_path p max_load_depth) (row p m)) (load_values (outcome (means x) p) (row p m)))

pub all_have_theirs : OutcomesHaveTheirPackages
all_have_theirs x p m s e = has_its_own x p m s e
