use Rattle.std.proofs.Common.{sym, subst, List}
use Rattle.bq_label.specs.Label.{package_of}
use Rattle.bq_package_target.specs.declared.target.Target.{Target}
use Rattle.bq_package_target.specs.Package.{AreTargetsOf}
use Rattle.bq_package_target.proofs.States.{empty_state}
use Rattle.bq_package_target.proofs.package.Package.failed.Goals as goal

pub of-requires : goal.of-requires
of-requires c = subst (λ (ts : List Target). AreTargetsOf (package_of c.args.build_file) ts) (sym c.new.ensures) (empty_state (package_of c.args.build_file))
