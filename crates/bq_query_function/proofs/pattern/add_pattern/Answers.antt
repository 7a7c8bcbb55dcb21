use Rattle.std.proofs.Common.{sym, subst, slice_set, true}
use Rattle.bq_label.specs.Label.{full_form}
use Rattle.bq_query_lex.specs.declared.pattern.TargetPattern.{TargetPattern}
use Rattle.bq_query_function.specs.Words.{Adds, names}
use Rattle.bq_query_function.proofs.Found.{adds_here}
use Rattle.bq_query_function.proofs.pattern.add_pattern.Goals as goal

pub returns-in_ok-at-in-Target-clause-set : goal.returns-in_ok-at-in-Target-clause-set
returns-in_ok-at-in-Target-clause-set c =
    let at = c.in_ok-at-in-Target in
    let marks = c.args.marks.now.items in
    subst (λ (p : TargetPattern). Adds (names p) c.args.targets.now marks (slice_set marks at.at true)) (sym c.in-Target.is)
    (adds_here c.args.targets.now (full_form c.in-Target.label) c.requires.order at.at at.ensures.found.0 at.ensures.found.1 marks c.requires.long)
