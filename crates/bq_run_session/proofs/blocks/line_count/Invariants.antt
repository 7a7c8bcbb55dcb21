use Rattle.std.proofs.Common.{◌≡◌, ◌≤◌, ◌+◌, drop}
use Rattle.bq_run_session.specs.Block.{line_count}
use Rattle.bq_run_session.proofs.blocks.line_count.Given as goal

abbrev pub invariant-loop-byte : goal.invariant-loop-byte
invariant-loop-byte l = record {
  counted : l.count + line_count (drop l.byte-index l.text) ≡ line_count l.text;
  few : l.count ≤ l.byte-index;
}
