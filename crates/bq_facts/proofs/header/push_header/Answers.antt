use Rattle.std.proofs.Common.{lit<}
use Rattle.bq_facts.specs.Header.{origin_members, count_members, header_line}
use Rattle.bq_facts.proofs.Objects.{two_parts}
use Rattle.bq_facts.proofs.header.push_header.Goals as goal

pub returns : goal.returns
unfolding header_line
returns c =
    two_parts c.args.text.now c.push_origin.new.text c.push_counts.new.text c.push.new.self c.end_line.new.self
    (origin_members c.args.origin.now) (count_members c.args.counts) (lit< tt) c.in_ok-push_origin.ensures c.in_ok-push_counts.ensures
    c.in_ok-push.ensures c.in_ok-end_line.ensures
