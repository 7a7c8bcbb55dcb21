use Rattle.bq_query_check.proofs.Says.{patterns_say}
use Rattle.bq_query_check.proofs.trees.named.Goals as goal

pub returns : goal.returns
returns c = ((c.in_ok-patterns.ensures.0, tt), (c.in_ok-patterns.patterns, c.in_ok-patterns.ensures.1, patterns_say c.in_ok-patterns.patterns))
