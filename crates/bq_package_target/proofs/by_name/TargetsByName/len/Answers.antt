use Rattle.std.proofs.Common.{◌≡◌, ◌∙◌, List, length, ap, rules}
use Rattle.bq_package_target.specs.declared.target.Target.{Target}
use Rattle.bq_package_target.proofs.ByNames.{as_many}
use Rattle.bq_package_target.proofs.by_name.TargetsByName.len.Goals as goal

pub returns : goal.returns
returns c =
    let placed = c.self.inside.placed.items in
    let counted : c.len.result ≡ length placed = search rules in
    counted ∙ (as_many placed ∙ ap (λ (z : List Target). length z) c.self.view_is)
