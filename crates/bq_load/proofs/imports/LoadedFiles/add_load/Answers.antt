use Rattle.std.proofs.Common.{sym, subst}
use Rattle.bq_load.specs.Places.{HasPlaces}
use Rattle.bq_load_module.specs.Round.{lent_files}
use Rattle.bq_load.specs.Imports.{names_by}
use Rattle.bq_load.proofs.Placed.{placed_at}
use Rattle.bq_load.proofs.imports.LoadedFiles.add_load.Goals as goal

pub invariant_of-exports : goal.invariant_of-exports
invariant_of-exports c =
    let own = c.args.self.now in
    record {
      placed = λ x is. subst (λ o. HasPlaces 0 (names_by (lent_files own.resolved.now) o) x.now) (sym c.module_in.ensures) (placed_at (lent_files own.resolved.now) own.modules.now c.args.places.now c.args.place x.now c.requires (c.places_at.ensures x is));
    }
