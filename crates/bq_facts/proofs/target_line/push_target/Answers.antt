use Rattle.std.proofs.Common.{lit<}
use Rattle.bq_facts.specs.TargetLine.{named, declared_by, target_line}
use Rattle.bq_facts.proofs.Objects.{two_parts}
use Rattle.bq_facts.proofs.target_line.push_target.Goals as goal

pub returns : goal.returns
unfolding target_line
returns c =
    two_parts c.args.text.now c.push_named.new.text c.push_rest.new.text c.push.new.self c.end_line.new.self
    (named c.args.target.now c.args.file.now) (declared_by c.args.target.now.kind c.args.target.now c.args.deps.now) (lit< tt)
    c.in_ok-push_named.ensures c.in_ok-push_rest.ensures c.in_ok-push.ensures c.in_ok-end_line.ensures
