use Rattle.std.proofs.Common.{sym, ◌∙◌}
use Rattle.bq_run.proofs.Leads.{starts_marked, found_at, found_none}
use Rattle.bq_run.proofs.bundle.lead.Goals as goal

pub returns-then-starts_with-clause-bytes : goal.returns-then-starts_with-clause-bytes
returns-then-starts_with-clause-bytes c = (starts_marked c.args.text.now (sym c.starts_with.ensures.value ∙ c.if-starts_with.true)).bytes

pub returns-then-starts_with-clause-stops : goal.returns-then-starts_with-clause-stops
returns-then-starts_with-clause-stops c = (starts_marked c.args.text.now (sym c.starts_with.ensures.value ∙ c.if-starts_with.true)).stops

pub returns-in-Some-clause-bytes : goal.returns-in-Some-clause-bytes
returns-in-Some-clause-bytes c = (found_at c.args.text.now c.in-Some.newline (sym c.starts_with.ensures.value ∙ c.if-starts_with.false) c.in-Some.ensures).bytes

pub returns-in-Some-clause-parts : goal.returns-in-Some-clause-parts
returns-in-Some-clause-parts c = (found_at c.args.text.now c.in-Some.newline (sym c.starts_with.ensures.value ∙ c.if-starts_with.false) c.in-Some.ensures).parts

pub returns-in-Some-clause-stops : goal.returns-in-Some-clause-stops
returns-in-Some-clause-stops c = (found_at c.args.text.now c.in-Some.newline (sym c.starts_with.ensures.value ∙ c.if-starts_with.false) c.in-Some.ensures).stops

pub returns-in-None-clause-bytes : goal.returns-in-None-clause-bytes
returns-in-None-clause-bytes c = (found_none c.args.text.now (sym c.starts_with.ensures.value ∙ c.if-starts_with.false) c.in-None.ensures).bytes

pub returns-in-None-clause-parts : goal.returns-in-None-clause-parts
returns-in-None-clause-parts c = (found_none c.args.text.now (sym c.starts_with.ensures.value ∙ c.if-starts_with.false) c.in-None.ensures).parts

pub returns-in-None-clause-stops : goal.returns-in-None-clause-stops
returns-in-None-clause-stops c = (found_none c.args.text.now (sym c.starts_with.ensures.value ∙ c.if-starts_with.false) c.in-None.ensures).stops
