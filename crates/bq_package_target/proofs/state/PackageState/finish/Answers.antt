use Rattle.std.proofs.Common.{◌≡◌, subst}
use Rattle.std.specs.Result.{IfOk}
use Rattle.bq_package_target.specs.Package.{PackageTargets}
use Rattle.bq_package_target.proofs.States.{rest_added, end_valid, end_is}
use Rattle.bq_package_target.proofs.state.PackageState.finish.Goals as goal

pub of-requires : goal.of-requires
of-requires c =
    let s = c.self.inside in
    let added = rest_added s.build_file s.targets c.append.new.self c.as_slice.result.now s.names c.new.result c.package_id.result.now c.add.new.self c.add_named.new.self c.new.ensures c.package_id.ensures c.as_slice.ensures c.in_ok-add.ensures c.in_ok-add_named.ensures c.in_ok-append.ensures in
    end_valid s.build_file s.targets s.names c.self.invariant c.append.new.self added

pub returns : goal.returns
returns c =
    let s = c.self.inside in
    let added = rest_added s.build_file s.targets c.append.new.self c.as_slice.result.now s.names c.new.result c.package_id.result.now c.add.new.self c.add_named.new.self c.new.ensures c.package_id.ensures c.as_slice.ensures c.in_ok-add.ensures c.in_ok-add_named.ensures c.in_ok-append.ensures in
    subst (λ (z : PackageTargets). IfOk c.of.result (λ p. p ≡ z)) (end_is s.build_file s.targets s.names c.self.invariant c.args.self c.self.view_is c.append.new.self added) c.of.ensures
