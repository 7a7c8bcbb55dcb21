use Rattle.std.proofs.Common.{◌≡◌, take}
use Rattle.bq_package_target.proofs.package_list.PackageList.share.Given as goal

abbrev pub invariant-loop-package : goal.invariant-loop-package
invariant-loop-package l = l.all.items ≡ take l.package-index l.packages
