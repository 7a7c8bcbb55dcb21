use Rattle.bq_label.specs.Label.{package_of}
use Rattle.bq_package_target.proofs.States.{no_state}
use Rattle.bq_package_target.proofs.state.PackageState.new.Goals as goal

pub invariant_of-result : goal.invariant_of-result
invariant_of-result c = no_state (package_of c.args.build_file) c.new.result c.new-2.result c.new.ensures c.new-2.ensures
