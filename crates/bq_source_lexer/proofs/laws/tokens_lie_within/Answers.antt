use Rattle.bq_source_lexer.proofs.Lying.{all_lie}
use Rattle.bq_source_lexer.proofs.laws.tokens_lie_within.Goals as goal

pub returns : goal.returns
returns c = all_lie c.args.text.now c.args.tokens.now c.requires
