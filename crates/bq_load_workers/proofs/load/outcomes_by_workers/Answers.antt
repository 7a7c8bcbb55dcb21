use Rattle.std.proofs.Common.{List, All, Result, length, sym, subst}
use Rattle.std.specs.declared.alloc.AllocError.{AllocError}
use Rattle.bq_load_order.specs.Outcome.{outcome}
use Rattle.bq_load_workers.specs.Brought.{IsAnswer}
use Rattle.bq_load_workers.specs.declared.pool.WorkDone.{WorkDone}
use Rattle.bq_load_workers.proofs.load.outcomes_by_workers.Goals as goal

pub brought-requires-clause-seats : goal.brought-requires-clause-seats
brought-requires-clause-seats g c _ _ = c.requires

pub found_by-requires-clause-right : goal.found_by-requires-clause-right
found_by-requires-clause-right g c _ _ =
    subst (λ (rs : List (Result (WorkDone _ _) AllocError)). All (IsAnswer g.E.Evaluate.see g.E.Evaluate.see_fault (outcome (g.E.Evaluate.means c.args.pool.now.evaluator) c.args.pool.now.graph) (length c.args.pool.now.graph)) rs) (sym c.as_slice.ensures.value) c.in_ok-answers.ensures

pub completed-requires-clause-order : goal.completed-requires-clause-order
completed-requires-clause-order g c _ _ = c.args.pool.now.sorted

pub completed-requires-clause-cyclic : goal.completed-requires-clause-cyclic
completed-requires-clause-cyclic g c _ _ = c.args.pool.now.cyclic

pub completed-requires-clause-depths : goal.completed-requires-clause-depths
completed-requires-clause-depths g c _ _ = c.args.pool.now.depths

pub completed-requires-clause-found : goal.completed-requires-clause-found
completed-requires-clause-found g c _ _ = c.in_ok-found.ensures.found

pub returns : goal.returns
returns g c = c.completed.ensures
