use Rattle.std.proofs.Common.{◌≡◌, false, drop}
use Rattle.std.specs.Option.{ForSome}
use Rattle.std.specs.List.{list_any}
use Rattle.bq_package_values.specs.Scope.{own_label_crosses}
use Rattle.bq_package_values.proofs.scope.PackageScope.any_own_label_crosses.Given as goal

abbrev pub invariant-loop-label : goal.invariant-loop-label
invariant-loop-label l =
    (list_any (own_label_crosses l.self.own.now l.self.packages.now) l.labels ≡ list_any (own_label_crosses l.self.own.now l.self.packages.now) (drop l.label-index l.labels))
    × ForSome l.before (λ b. own_label_crosses l.self.own.now l.self.packages.now b.now ≡ false)
