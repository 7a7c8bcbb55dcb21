-- What the fields of a module's cells stand for.
use Rattle.bq_value.specs.Cells.{FrozenCells}
use Rattle.bq_value.specs.declared.shared.Cells.{Cells}

-- a module's cells by number, the values of its globals, and the kinds of its rules
abbrev pub cells_of : Cells → FrozenCells
cells_of c = record { cells = c.contents.items; globals = c.globals.items; kinds = c.kinds }
