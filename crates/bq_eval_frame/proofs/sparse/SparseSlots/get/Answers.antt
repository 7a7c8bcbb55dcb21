use Rattle.std.proofs.Common.{sym, subst, arith}
use Rattle.std.proofs.lemmas.List.{get_or_default}
use Rattle.bq_eval_frame.specs.Sparse.{IsStrictlySorted}
use Rattle.bq_value.specs.Datum.{none}
use Rattle.bq_eval_frame.proofs.SparseSearch.{found_at, found_in_gap}
use Rattle.bq_eval_frame.proofs.sparse.SparseSlots.get.Goals as goal

-- the slot is at its place, and the pair there is the one that was read
pub returns-in-Ok : goal.returns-in-Ok
returns-in-Ok c =
    let value = found_at _ (subst IsStrictlySorted c.self.view_is c.self.invariant) _ _ c.in-Ok.ensures.found in
    let read = get_or_default _ _ c.index.result.now (0, none) c.in-Ok.ensures.found.in_range in
    grind (arith, c.self.view_is)

-- it is not there
pub returns-in-Err : goal.returns-in-Err
returns-in-Err c = sym (found_in_gap _ _ _ c.in-Err.ensures.absent)
