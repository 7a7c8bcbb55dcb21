use Rattle.bq_source.proofs.LiteralLaws.{one_cut}
use Rattle.bq_source.proofs.string_literal.literals_are_cut_in_one_way.Goals as goal

pub returns : goal.returns
returns c = one_cut
