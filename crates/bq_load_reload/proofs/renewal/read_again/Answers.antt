use Rattle.bq_load_reload.specs.Renewal.{loaded_by_one}
use Rattle.bq_load_reload.proofs.Renewed.{loads_same}
use Rattle.bq_load_reload.proofs.renewal.read_again.Goals as goal

pub returns-clause-same : goal.returns-clause-same
returns-clause-same c =
    loads_same c.loads.result.now c.loads-2.result.now (loaded_by_one c.in_ok-read.read) (loaded_by_one c.args.known) c.have_same_labels-same.result c.loads.ensures c.loads-2.ensures c.have_same_labels-same.ensures
