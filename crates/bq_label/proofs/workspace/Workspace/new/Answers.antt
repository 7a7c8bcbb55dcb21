use Rattle.std.proofs.Common.{◌≡◌, Some, None, subst}
use Rattle.std.specs.Prelude.{MatchResult}
use Rattle.bq_base.specs.declared.limits.Limits.{Limits}
use Rattle.bq_label.specs.Workspace.{workspace_within}
use Rattle.bq_label.proofs.workspace.Workspace.new.Goals as goal

pub returns : goal.returns
returns c =
    let files = c.args.files.items in
    subst (λ (l : Limits). MatchResult c.within.result (λ w. workspace_within l files ≡ Some w) (λ _. workspace_within l files ≡ None)) c.standard.ensures.value c.within.ensures
