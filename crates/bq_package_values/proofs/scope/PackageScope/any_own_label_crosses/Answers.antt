use Rattle.std.proofs.Common.{◌≡◌, false, arith, rules}
use Rattle.std.proofs.lemmas.Grind.{common_steps}
use Rattle.bq_package_values.specs.Scope.{own_label_crosses}
use Rattle.bq_package_values.proofs.Steps.{of_some}
use Rattle.bq_package_values.proofs.scope.PackageScope.any_own_label_crosses.Goals as goal

pub returns-then-branch : goal.returns-then-branch
returns-then-branch c = grind (arith, common_steps)

pub loop-label-preserved : goal.loop-label-preserved
loop-label-preserved c =
    let s = c.args.self.now in
    (grind (arith, common_steps), of_some (λ b. own_label_crosses s.own.now s.packages.now b.now ≡ false) _ (search rules))
