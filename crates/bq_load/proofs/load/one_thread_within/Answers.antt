use Rattle.bq_load.proofs.load.one_thread_within.Goals as goal

pub modules_one_thread-requires : goal.modules_one_thread-requires
modules_one_thread-requires c = c.in-Ok.ensures.0
