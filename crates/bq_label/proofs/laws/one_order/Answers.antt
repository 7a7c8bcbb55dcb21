use Rattle.bq_label.proofs.Workspaces.{workspace_found, workspace_from}
use Rattle.bq_label.proofs.laws.one_order.Goals as goal

pub returns : goal.returns
returns c = λ limits files w bounded. (workspace_found limits bounded files w, workspace_from limits files w)
