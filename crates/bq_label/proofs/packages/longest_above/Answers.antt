use Rattle.std.proofs.Common.{◌≡◌, ◌∙◌, ap, arith, rules, sym, subst}
use Rattle.std.proofs.lemmas.Fn.{always_returns_same}
use Rattle.bq_label.specs.Label.{PackageParts, package_at}
use Rattle.bq_label.specs.Packages.{comes_before, common_in, HasNoneLonger}
use Rattle.bq_label.specs.declared.packages.BuildFile.{BuildFile}
use Rattle.bq_label.proofs.Ancestors.{IsSplit, before_first, none_before, none_longer, common_in_within}
use Rattle.bq_label.proofs.packages.longest_above.Goals as goal

pub returns-then-before-eq0-clause-none : goal.returns-then-before-eq0-clause-none
returns-then-before-eq0-clause-none c =
    let target : PackageParts = package_at c.args.repo.now c.args.path.now in
    let split : IsSplit c.args.packages.now target c.partition_point-before.result = c.partition_point-before.ensures.partitioned (λ b. comes_before target b.id) (always_returns_same _ _ _ (λ a r q k. search rules)) (before_first c.args.packages.now target c.requires) in
    none_before c.args.packages.now c.args.repo.now c.args.path.now c.requires c.partition_point-before.result c.if-before-eq0.true split

pub returns-clause-bound : goal.returns-clause-bound
returns-clause-bound c =
    let last : BuildFile = c.index-packages-before.result in
    let len : c.common_in.result ≡ common_in last.id c.args.repo.now c.args.path.now = c.common_in.ensures ∙ ap (λ (b : BuildFile). common_in b.id c.args.repo.now c.args.path.now) (sym c.index-packages-before.is) in
    omega (arith, len, common_in_within last.id c.args.repo.now c.args.path.now)

pub returns-clause-none : goal.returns-clause-none
returns-clause-none c =
    let target : PackageParts = package_at c.args.repo.now c.args.path.now in
    let split : IsSplit c.args.packages.now target c.partition_point-before.result = c.partition_point-before.ensures.partitioned (λ b. comes_before target b.id) (always_returns_same _ _ _ (λ a r q k. search rules)) (before_first c.args.packages.now target c.requires) in
    let last : BuildFile = c.index-packages-before.result in
    let len : c.common_in.result ≡ common_in last.id c.args.repo.now c.args.path.now = c.common_in.ensures ∙ ap (λ (b : BuildFile). common_in b.id c.args.repo.now c.args.path.now) (sym c.index-packages-before.is) in
    subst (λ n. HasNoneLonger c.args.packages.now c.args.repo.now c.args.path.now n) (sym len)
    (none_longer c.args.packages.now c.args.repo.now c.args.path.now c.requires c.partition_point-before.result (omega (arith, c.if-before-eq0.false)) c.partition_point-before.ensures.bound last c.index-packages-before.is split)
