use Rattle.std.proofs.Common.{lit<, codes}
use Rattle.bq_facts.specs.ModuleLine.{file_members, clause_members, load_object}
use Rattle.bq_facts.proofs.Objects.{closed_object}
use Rattle.bq_facts.proofs.module_line.push_load.Goals as goal

pub returns : goal.returns
unfolding load_object
returns c =
    closed_object c.args.text.now c.open_with_file.new.text c.push_clauses.new.text c.push.new.self
    (file_members (codes "label") c.args.file.now) (clause_members c.args.load.now) (lit< tt)
    c.in_ok-open_with_file.ensures c.in_ok-push_clauses.ensures c.in_ok-push.ensures
