use Rattle.bq_run_laws.proofs.Lines.{lines_stand, dangling_told}
use Rattle.bq_run_laws.proofs.run.fault_lines_stand_on_lines.Goals as goal

pub returns-clause-lines : goal.returns-clause-lines
returns-clause-lines c = lines_stand

pub returns-clause-dangling : goal.returns-clause-dangling
returns-clause-dangling c = dangling_told
