use Rattle.std.proofs.Common.{◌-◌, ◌∙◌, sym, arith}
use Rattle.std.specs.Option.{option_copied}
use Rattle.bq_label.proofs.Owners.{near_some, near_root, copied_some}
use Rattle.bq_label.proofs.packages.nearest_above.Goals as goal

pub returns-then-is_some : goal.returns-then-is_some
returns-then-is_some c =
    near_some c.args.packages.now c.args.repo.now c.args.rest.now (c.loop-at.at - 1) (option_copied c.find_package-package.result) c.requires (omega arith) c.if-rest-at-ne47.false
    (λ k l. c.loop-at.invariant.1 k (omega arith)) c.find_package-package.ensures (copied_some c.find_package-package.result ∙ (sym c.is_some.ensures ∙ c.if-is_some.true))

pub returns : goal.returns
returns c =
    near_root c.args.packages.now c.args.repo.now c.args.rest.now c.requires (λ k l. c.loop-at.invariant.1 k (omega arith)) (option_copied c.find_package.result) c.find_package.ensures
