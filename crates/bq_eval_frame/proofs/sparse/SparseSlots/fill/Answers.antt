use Rattle.std.proofs.Common.{subst, arith}
use Rattle.bq_eval_frame.specs.Sparse.{IsStrictlySorted}
use Rattle.bq_eval_frame.proofs.SparseSearch.{sorted_set, binds_set, sorted_insert, binds_insert}
use Rattle.bq_eval_frame.proofs.sparse.SparseSlots.fill.Goals as goal

-- the slot was there, and its pair is written over
pub invariant_of-self : goal.invariant_of-self
invariant_of-self c = sorted_set _ c.self.invariant _ _ (rw c.self.view_is c.in-Ok.ensures.found) _

pub returns-in-Ok : goal.returns-in-Ok
returns-in-Ok c = rw c.self.view_is (binds_set _ (subst IsStrictlySorted c.self.view_is c.self.invariant) _ _ c.in-Ok.ensures.found _)

-- the pair is added in the gap
pub invariant_of-self-in-Err : goal.invariant_of-self-in-Err
invariant_of-self-in-Err c = rw c.in_ok-insert-in-Err.ensures.items (sorted_insert _ _ _ (rw c.self.view_is c.in-Err.ensures.absent) _ c.self.invariant)

pub returns-in_ok-insert-in-Err : goal.returns-in_ok-insert-in-Err
returns-in_ok-insert-in-Err c = rw (c.in_ok-insert-in-Err.ensures.items, c.self.view_is) (binds_insert _ _ _ c.in-Err.ensures.absent _)
