use Rattle.bq_label.specs.Label.{full_form}
use Rattle.bq_query_function.proofs.Found.{adds_here, adds_nowhere}
use Rattle.bq_query_function.proofs.pattern.add_label.Goals as goal

pub returns-in-Some : goal.returns-in-Some
returns-in-Some c =
    adds_here c.args.targets.now (full_form c.args.label.now) c.requires.order c.in-Some.at c.in-Some.ensures.found.0 c.in-Some.ensures.found.1 c.args.marks.now.items c.requires.long

pub returns-in-None : goal.returns-in-None
returns-in-None c = adds_nowhere c.args.targets.now (full_form c.args.label.now) c.args.marks.now.items c.in-None.ensures.none
