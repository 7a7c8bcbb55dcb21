use Rattle.bq_value.proofs.Freezes.{other_modules, other_cells}
use Rattle.bq_value.proofs.store_laws.changing_a_cell.Goals as goal

pub returns-clause-modules : goal.returns-clause-modules
returns-clause-modules c = other_modules

pub returns-clause-cells : goal.returns-clause-cells
returns-clause-cells c = other_cells
