use Rattle.std.proofs.Common.{lit<}
use Rattle.bq_facts.specs.Header.{workspace_limits, further_limits, json_limits}
use Rattle.bq_facts.proofs.Objects.{closed_object}
use Rattle.bq_facts.proofs.header.push_limits.Goals as goal

pub returns : goal.returns
unfolding json_limits
returns c =
    closed_object c.args.text.now c.push_workspace_limits.new.text c.push_further_limits.new.text c.push.new.self
    (workspace_limits c.args.limits) (further_limits c.args.limits) (lit< tt) c.in_ok-push_workspace_limits.ensures c.in_ok-push_further_limits.ensures
    c.in_ok-push.ensures
