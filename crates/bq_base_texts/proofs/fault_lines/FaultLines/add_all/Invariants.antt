use Rattle.std.proofs.Common.{◌≡◌}
use Rattle.bq_base_texts.specs.FaultLine.{put_lines}
use Rattle.bq_base_texts.proofs.fault_lines.FaultLines.add_all.Given as goal

-- the lines that are left, put into those that are there
abbrev pub invariant-loop-line : goal.invariant-loop-line
invariant-loop-line l = put_lines l.self l.line-iterator ≡ put_lines l.fn.self l.fn.more
