use Rattle.std.proofs.Common.{rules}
use Rattle.bq_package.specs.Place.{place_of}
use Rattle.bq_package.specs.Calls.{held_by}
use Rattle.bq_package.proofs.Meaning.{group_done}
use Rattle.bq_package.proofs.building.BuildHost.package_group.Goals as goal

pub returns-clause-says : goal.returns-clause-says
returns-clause-says c =
    group_done c.args.machine.now (held_by c.args.self.now) (held_by c.declare.new.self) (place_of c.in_ok-place.place) c.args.args c.in_ok-target.target c.declare.result (search rules) (search rules) c.declare.ensures
