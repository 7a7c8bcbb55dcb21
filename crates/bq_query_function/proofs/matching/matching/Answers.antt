use Rattle.std.proofs.Common.{◌∙◌, ℕ, List, subst}
use Rattle.std.specs.Prelude.{IfOk}
use Rattle.bq_query_function.specs.Texts.{subject_text}
use Rattle.bq_query_function.specs.Matching.{is_match, Keeps}
use Rattle.bq_query_function.proofs.matching.matching.Goals as goal

pub returns : goal.returns
returns c =
    subst (λ (pattern : List ℕ). IfOk c.matching_by.result (λ r. Keeps (λ t. is_match pattern (subject_text c.args.subject t)) c.args.targets.now c.args.x.now r.items)) (c.in_ok-matcher.ensures ∙ c.in_ok-compiled.ensures) c.matching_by.ensures
