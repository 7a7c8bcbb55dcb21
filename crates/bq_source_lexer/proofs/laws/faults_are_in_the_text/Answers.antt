use Rattle.bq_source_lexer.proofs.LaidOut.{faulty}
use Rattle.bq_source_lexer.proofs.laws.faults_are_in_the_text.Goals as goal

pub returns : goal.returns
returns c = faulty
