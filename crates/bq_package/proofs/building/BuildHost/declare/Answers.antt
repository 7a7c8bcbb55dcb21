use Rattle.std.proofs.Common.{◌≡◌, Some, Option, ap, subst, rules}
use Rattle.bq_package_target.specs.Calls.{declared}
use Rattle.bq_package.specs.declared.building.Building.{Building}
use Rattle.bq_package.specs.Place.{place_of}
use Rattle.bq_package.specs.Calls.{HeldPackage, held_of, held_by}
use Rattle.bq_package.specs.Keeping.{IsSettled}
use Rattle.bq_package.proofs.Owning.{declared_in}
use Rattle.bq_package.proofs.Settling.{declare_settles}
use Rattle.bq_package.proofs.building.BuildHost.declare.Goals as goal

pub settle-requires : goal.settle-requires
settle-requires c =
    let b = c.in-Some.building in
    declared_in b.place.scope.own.now b.«package» c.args.target c.in_ok-declared.declared b.own c.in_ok-declared.ensures

pub returns : goal.returns
returns c =
    let b = c.in-Some.building in
    let held : Some b ≡ c.args.self.now.building = search rules in
    subst (λ (k : HeldPackage). IsSettled c.settle.result k (held_by c.settle.new.self) (λ p. declared p c.args.target)) (ap (λ (o : Option Building). held_of c.args.self.now.scope o) held)
    (declare_settles c.args.target (place_of b.place) b.«package» c.in_ok-declared.declared c.settle.result (held_by c.settle.new.self) c.in_ok-declared.ensures c.settle.ensures)
