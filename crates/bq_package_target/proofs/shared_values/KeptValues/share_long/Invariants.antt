use Rattle.std.proofs.Common.{◌≡◌, take}
use Rattle.bq_package_target.proofs.shared_values.KeptValues.share_long.Given as goal

abbrev pub invariant-loop-given : goal.invariant-loop-given
invariant-loop-given l = l.shared.items ≡ take l.given-index l.all
