use Rattle.bq_facts.proofs.Lines as lines
use Rattle.bq_facts.proofs.laws.lines_are_of_objects.Goals as goal

pub returns-clause-headers : goal.returns-clause-headers
returns-clause-headers c o counts = lines.header_lines o counts

pub returns-clause-targets : goal.returns-clause-targets
returns-clause-targets c t file deps = lines.target_lines t file deps

pub returns-clause-modules : goal.returns-clause-modules
returns-clause-modules c l loads files = lines.module_lines l loads files

pub returns-clause-faults : goal.returns-clause-faults
returns-clause-faults c l = lines.fault_lines l
