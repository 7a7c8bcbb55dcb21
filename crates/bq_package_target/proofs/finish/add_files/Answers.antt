use Rattle.std.proofs.Common.{◌∙◌, ◌++◌, List, ap, subst}
use Rattle.bq_package_target.specs.declared.target.Target.{Target}
use Rattle.bq_package_target.specs.Files.{Finds}
use Rattle.bq_package_target.proofs.finish.add_files.Goals as goal

pub returns-clause-targets : goal.returns-clause-targets
returns-clause-targets c =
    let found = subst (λ (z : List Target). Finds c.args.line c.args.labels.now (record { names = c.args.names; found = z }) c.add_all.new.self) c.new.ensures c.in_ok-add_all.ensures in
    c.in_ok-append.ensures ∙ ap (λ (z : List Target). c.args.targets.now ++ z) found.found

pub returns-clause-names : goal.returns-clause-names
returns-clause-names c =
    let found = subst (λ (z : List Target). Finds c.args.line c.args.labels.now (record { names = c.args.names; found = z }) c.add_all.new.self) c.new.ensures c.in_ok-add_all.ensures in
    found.names
