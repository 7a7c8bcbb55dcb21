use Rattle.std.proofs.Common.{◌∙◌, ◌++◌, [], ◌∷◌, map, ap, append_assoc, List}
use Rattle.bq_package_target.specs.declared.target.Target.{Target}
use Rattle.bq_package_target.specs.declared.value.GivenAttribute.{GivenAttribute}
use Rattle.bq_package_target.specs.Value.{outputs_in}
use Rattle.bq_package_target.specs.Target.{generated, declares}
use Rattle.bq_package_target.proofs.declare.add_target.Goals as goal

pub returns-clause-targets : goal.returns-clause-targets
unfolding declares
returns-clause-targets c =
    let targets = c.args.targets.now in
    let target = c.args.target in
    let shared = record target { attributes = c.share_long.new.attributes } in
    let same = ap (λ (given : List GivenAttribute). record target { attributes = given }) c.in_ok-share_long.ensures in
    c.in_ok-append.ensures
    ∙ (ap (λ (ts : List Target). ts ++ c.in_ok-made.made) c.in_ok-push.ensures.ok
    ∙ (append_assoc targets (shared ∷ []) c.in_ok-made.made
    ∙ (ap (λ (ts : List Target). targets ++ shared ∷ ts) c.in_ok-made.ensures
    ∙ ap (λ (t : Target). targets ++ t ∷ map (generated t) (outputs_in t.attributes)) same)))
