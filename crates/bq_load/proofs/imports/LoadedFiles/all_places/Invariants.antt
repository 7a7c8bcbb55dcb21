-- the modules so far have their places
use Rattle.std.proofs.Common.{◌≡◌, length}
use Rattle.bq_load.specs.Places.{AllPlaced}
use Rattle.bq_load_module.specs.Round.{lent_files}
use Rattle.bq_load.specs.Imports.{names_of}
use Rattle.bq_load.proofs.imports.LoadedFiles.all_places.Given as goal

abbrev pub invariant-loop-number : goal.invariant-loop-number
invariant-loop-number l = record {
  wide : length l.all.items ≡ l.number;
  placed : AllPlaced (names_of (lent_files l.self.resolved.now) l.self.modules.now) l.all.items;
}
