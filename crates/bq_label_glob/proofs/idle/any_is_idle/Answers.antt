use Rattle.std.proofs.Common.{◌∙◌}
use Rattle.bq_label.specs.Workspace.{paths_of}
use Rattle.bq_label_glob.proofs.Alone.{idle_by}
use Rattle.bq_label_glob.proofs.idle.any_is_idle.Goals as goal

pub returns : goal.returns
returns c =
    idle_by (paths_of c.args.workspace.now) c.args.packages.now c.args.id.now c.args.patterns.now c.any_matches_none.result c.deref.result.now
    (c.deref.ensures.value ∙ c.in_ok-names.ensures) c.any_matches_none.ensures
