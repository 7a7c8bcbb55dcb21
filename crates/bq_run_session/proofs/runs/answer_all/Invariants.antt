use Rattle.std.proofs.Common.{◌≡◌}
use Rattle.bq_run_commands.specs.Reading.{ahead}
use Rattle.bq_run_session.specs.State.{State}
use Rattle.bq_run_session.specs.Steps.{Holds, KeepsIts}
use Rattle.bq_run_session.proofs.Progress.{Progress}
use Rattle.bq_run_session.proofs.runs.answer_all.Given as goal

abbrev pub invariant-loop-item : goal.invariant-loop-item
invariant-loop-item g l = record {
  progress : (s : State) → Holds l.by.options.now.limits l.fn.held s
      → Progress l.by.version.now l.by.options.now s (g.Q.ByteSource.remaining l.fn.queries) (ahead l.left (g.Q.ByteSource.remaining l.queries)) l.held l.refused
      (g.W.ByteSink.contents l.fn.writer) (g.W.ByteSink.contents l.writer);
  kept : KeepsIts l.by.options.now.limits l.held;
  limit : l.limit ≡ l.by.options.now.limits.bundle_bytes;
  quiet_queries : g.Q.Counted.failed l.queries ≡ g.Q.Counted.failed l.fn.queries;
  quiet : g.W.Counted.failed l.writer ≡ g.W.Counted.failed l.fn.writer;
}

abbrev pub decreases-loop-item : goal.decreases-loop-item
decreases-loop-item g l = l.left
