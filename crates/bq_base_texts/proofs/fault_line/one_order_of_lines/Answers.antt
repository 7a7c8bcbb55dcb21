use Rattle.bq_base_texts.proofs.LineOrder.{ascending, same_lines, one_order}
use Rattle.bq_base_texts.proofs.fault_line.one_order_of_lines.Goals as goal

pub returns-clause-ascending : goal.returns-clause-ascending
returns-clause-ascending c = ascending

pub returns-clause-same : goal.returns-clause-same
returns-clause-same c = same_lines

pub returns-clause-only : goal.returns-clause-only
returns-clause-only c = one_order
