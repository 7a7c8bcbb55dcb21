use Rattle.bq_load_laws.proofs.Faults.Lines.{of_module, lines_of_modules}
use Rattle.bq_load_laws.proofs.fault.fault_lines_are_of_modules.Goals as goal

pub returns-clause-faults : goal.returns-clause-faults
returns-clause-faults c = of_module

pub returns-clause-lines : goal.returns-clause-lines
returns-clause-lines c = lines_of_modules
