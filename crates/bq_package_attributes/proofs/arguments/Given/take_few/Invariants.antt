-- the arguments that are left decide
use Rattle.std.proofs.Common.{◌≡◌, drop}
use Rattle.bq_package_attributes.specs.Arguments.{with_arguments}
use Rattle.bq_package_attributes.specs.KeywordArguments.{pairs}
use Rattle.bq_package_attributes.proofs.arguments.Given.take_few.Given as goal

abbrev pub invariant-loop-argument : goal.invariant-loop-argument
invariant-loop-argument l =
    with_arguments l.callee.scope.own.now l.callee.scope.packages.now l.callee.store.now l.callee.class.now l.fn.self (pairs l.named)
    ≡ with_arguments l.callee.scope.own.now l.callee.scope.packages.now l.callee.store.now l.callee.class.now l.self (pairs (drop l.argument-index l.named))
