use Rattle.bq_board.proofs.Lemmas.{Has-get_or}
use Rattle.bq_load_workers.proofs.pool.WorkerPool.offer.Goals as goal

pub target-target-requires : goal.target-target-requires
target-target-requires g c = (c.edges_out-out.ensures.out.leaves _ (Has-get_or c.edges_out-out.result.now c.loop-e.e-index c.loop-e-test.true)).0
