use Rattle.bq_source_lexer.proofs.LaidOut.{reads}
use Rattle.bq_source_lexer.proofs.laws.tokens_cut_the_text.Goals as goal

pub returns : goal.returns
returns c = reads
