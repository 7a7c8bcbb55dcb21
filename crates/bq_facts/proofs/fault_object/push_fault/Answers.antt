use Rattle.std.proofs.Common.{lit<}
use Rattle.bq_facts.specs.FaultObject.{what_members, where_members, fault_object}
use Rattle.bq_facts.proofs.Objects.{two_parts}
use Rattle.bq_facts.proofs.fault_object.push_fault.Goals as goal

pub returns : goal.returns
unfolding fault_object
returns c =
    two_parts c.args.text.now c.push_what.new.text c.push_where.new.text c.push.new.self c.end_line.new.self
    (what_members c.args.line.now) (where_members c.args.line.now) (lit< tt) c.in_ok-push_what.ensures c.in_ok-push_where.ensures
    c.in_ok-push.ensures c.in_ok-end_line.ensures
