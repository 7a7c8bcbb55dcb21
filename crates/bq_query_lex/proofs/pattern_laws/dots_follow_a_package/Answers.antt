use Rattle.bq_query_lex.proofs.Patterns as patterns
use Rattle.bq_query_lex.proofs.pattern_laws.dots_follow_a_package.Goals as goal

pub returns : goal.returns
returns c p word hp begins = patterns.dots_follow_a_package p word hp begins
