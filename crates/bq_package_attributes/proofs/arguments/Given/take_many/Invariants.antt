-- the arguments that are left decide
use Rattle.std.proofs.Common.{◌≡◌, drop}
use Rattle.bq_package_attributes.specs.Arguments.{with_arguments}
use Rattle.bq_package_attributes.proofs.arguments.Given.take_many.Given as goal

abbrev pub invariant-loop-i : goal.invariant-loop-i
invariant-loop-i l =
    with_arguments l.callee.scope.own.now l.callee.scope.packages.now l.callee.store.now l.callee.class.now l.fn.self l.keywords
    ≡ with_arguments l.callee.scope.own.now l.callee.scope.packages.now l.callee.store.now l.callee.class.now l.self (drop l.i l.keywords)
