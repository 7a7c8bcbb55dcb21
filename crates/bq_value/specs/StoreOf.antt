-- What the fields of a store and of a frozen module stand for.
use Rattle.bq_value.specs.Cells.{StoreView, FrozenView}
use Rattle.bq_value.specs.declared.frozen.Frozen.TheInside.{Inside as FrozenInside}
use Rattle.bq_value.specs.declared.store.Store.TheInside.{Inside}

-- the running module's number and cells, and the frozen modules that it reaches
abbrev pub store_of : Inside → StoreView
store_of s = record { own = s.made.own; cells = s.made.cells; loaded = s.loaded }

-- a frozen module's number and cells, and the modules that it reaches
abbrev pub frozen_of : FrozenInside → FrozenView
frozen_of f = record { own = f.own; cells = f.cells; reached = f.reached }
