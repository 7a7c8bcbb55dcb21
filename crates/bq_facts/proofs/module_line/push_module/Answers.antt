use Rattle.std.proofs.Common.{lit<, codes}
use Rattle.bq_facts.specs.ModuleLine.{file_members, load_members, module_line}
use Rattle.bq_facts.proofs.Objects.{two_parts}
use Rattle.bq_facts.proofs.module_line.push_module.Goals as goal

pub returns : goal.returns
unfolding module_line
returns c =
    two_parts c.args.text.now c.open_with_file.new.text c.push_load_member.new.text c.push.new.self c.end_line.new.self
    (file_members (codes "module") c.args.label.now) (load_members c.args.loads.now c.args.files.now) (lit< tt)
    c.in_ok-open_with_file.ensures c.in_ok-push_load_member.ensures c.in_ok-push.ensures c.in_ok-end_line.ensures
