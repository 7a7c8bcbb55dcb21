-- What the fields of the cells of a running module stand for.
use Rattle.bq_value_content.specs.Made.{MadeView}
use Rattle.bq_value_content.specs.declared.made.Made.TheInside.{Inside}

-- a module's number, and what its cells hold, by number
abbrev pub made_of : Inside → MadeView
made_of m = record { own = m.own; cells = m.cells.items }
