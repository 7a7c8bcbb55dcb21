use Rattle.std.proofs.Common.{arith, length-take-le, sym, take_all}
use Rattle.bq_run_commands.specs.Queries.{max_query_bytes}
use Rattle.bq_run_session.proofs.blocks.shown.Goals as goal

pub slice_bounds-result-end : goal.slice_bounds-result-end
slice_bounds-result-end c = sym (length-take-le max_query_bytes c.args.query.now (omega arith))

pub returns-else-query-gt-MAX_QUERY_BYTES : goal.returns-else-query-gt-MAX_QUERY_BYTES
returns-else-query-gt-MAX_QUERY_BYTES c = sym (take_all max_query_bytes c.args.query.now c.if-query-gt-MAX_QUERY_BYTES.false)
