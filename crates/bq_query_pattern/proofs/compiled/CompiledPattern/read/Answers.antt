use Rattle.std.proofs.Common.{List, ℕ, subst}
use Rattle.bq_query_pattern.specs.Patterns.{IsCause, cause_of}
use Rattle.bq_query_pattern.proofs.Causes.{cause_right}
use Rattle.bq_query_pattern.proofs.compiled.CompiledPattern.read.Goals as goal

pub returns-in-Err-new-clause-refused : goal.returns-in-Err-new-clause-refused
returns-in-Err-new-clause-refused c =
    rw c.cause.ensures (subst (λ (b : List ℕ). IsCause b (cause_of c.in-Err-new.error)) c.in-Ok.ensures.cases.0 (cause_right c.in-Ok.text.now c.in-Err-new.error c.in-Err-new.ensures.refused c.in-Err-new.ensures.kind))
