use Rattle.std.proofs.Common.{◌∙◌, ap, sym, arith}
use Rattle.std.specs.Ordering.{is_ge}
use Rattle.bq_label.proofs.Workspaces.{at_or_above, strict_from_adjacent, distinct_from_strict}
use Rattle.bq_label.proofs.workspace.are_ascending.Goals as goal

pub returns-then-is_ge-clause-distinct : goal.returns-then-is_ge-clause-distinct
returns-then-is_ge-clause-distinct c = sym (at_or_above c.args.files.now c.loop-at.at _ _ c.requires c.loop-at.auto.at c.loop-at-test.true (ap is_ge (sym c.cmp.ensures) ∙ (sym c.is_ge.ensures ∙ c.if-is_ge.true)))

pub returns-clause-strict : goal.returns-clause-strict
returns-clause-strict c = strict_from_adjacent _ (λ k d l. c.loop-at.invariant k d (omega arith))

pub returns-clause-distinct : goal.returns-clause-distinct
returns-clause-distinct c = sym (distinct_from_strict _ (strict_from_adjacent _ (λ k d l. c.loop-at.invariant k d (omega arith))))
