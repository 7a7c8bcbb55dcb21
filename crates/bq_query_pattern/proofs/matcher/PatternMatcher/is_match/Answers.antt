use Rattle.std.proofs.Common.{ap, subst, is_some, ◌∙◌, arith}
use Rattle.regex_hir.specs.Find.{find}
use Rattle.regex_syntax.specs.Verdict.{Reads}
use Rattle.regex_syntax.specs.declared.Config.{Config}
use Rattle.regex.specs.Bytes.{regex_source, regex_names}
use Rattle.bq_query_pattern.specs.Patterns.{is_found}
use Rattle.bq_query_pattern.proofs.Founds.{found_alike}
use Rattle.bq_query_pattern.proofs.matcher.PatternMatcher.is_match.Goals as goal

pub returns-clause-found : goal.returns-clause-found
returns-clause-found c =
    let r = c.self.inside.regex.now in
    let text = c.args.text.now in
    let read = subst (λ (config : Config). Reads config (regex_source r) r.pattern.program.hir (regex_names r)) c.self.invariant.0 c.self.invariant.1 in
    c.is_match.ensures.found
    ∙ (ap (λ re. is_some (find re text 0)) c.self.invariant.2
    ∙ (found_alike (regex_source r) text r.pattern.program.hir (regex_names r) read (λ k. omega (arith, c.type_inv.text k))
    ∙ ap (λ b. is_found b text) c.self.view_is))
