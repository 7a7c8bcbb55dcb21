use Rattle.std.proofs.Common.{ap}
use Rattle.bq_package_target.specs.declared.state.Declared.TheVariants.{Accepted}
use Rattle.bq_package_target.proofs.States.{files_is, files_state}
use Rattle.bq_package_target.proofs.state.PackageState.accept.Goals as goal

pub invariant_of-result : goal.invariant_of-result
invariant_of-result c =
    let s = c.self.inside in
    let e = c.in_ok-names.ensures in
    files_state s.build_file s.targets s.names c.self.invariant c.args.self c.self.view_is c.args.labels.now c.args.line c.requires c.add_files.new.targets e.targets c.in_ok-names.names e.names

pub returns : goal.returns
returns c =
    let s = c.self.inside in
    ap Accepted (files_is s.build_file s.targets s.names c.self.invariant c.args.self c.self.view_is c.args.labels.now c.args.line c.add_files.new.targets c.in_ok-names.ensures.targets)
