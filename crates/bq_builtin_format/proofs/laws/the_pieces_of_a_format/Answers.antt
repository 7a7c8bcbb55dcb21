use Rattle.bq_builtin_format.proofs.Fieldless.{found_pieces, only_pieces}
use Rattle.bq_builtin_format.proofs.laws.the_pieces_of_a_format.Goals as goal

pub returns : goal.returns
returns c = record { found = found_pieces; only = only_pieces }
