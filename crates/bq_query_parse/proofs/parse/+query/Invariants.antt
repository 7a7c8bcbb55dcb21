use Rattle.bq_query_parse.proofs.parse.+query.Given as goal

abbrev pub decreases-query : goal.decreases-query
decreases-query l = l.depth
