use Rattle.bq_builtin_laws.proofs.Collections.Indices.{first_index}
use Rattle.bq_builtin_laws.proofs.collection.indices_are_of_the_whole_list.Goals as goal

pub returns : goal.returns
returns c xs v answer start end s f = first_index f.home f.number xs v start end answer s f.after f.known f.args f.from f.to f.asked f.from_is f.to_is f.run
