use Rattle.bq_load_laws.proofs.Graphs.Nothing.{loads_nothing}
use Rattle.bq_load_laws.proofs.graph.faulty_files_load_nothing.Goals as goal

pub returns : goal.returns
returns c = loads_nothing
