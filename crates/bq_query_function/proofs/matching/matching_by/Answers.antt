use Rattle.std.proofs.Common.{◌≡◌, ◌∙◌, ◌+◌, length, false, sym, ap, subst, ℕ, get_or, arith}
use Rattle.std.specs.Prelude.{◌&&◌, Bool}
use Rattle.std.proofs.lemmas.List.{length_push}
use Rattle.bq_package_target.specs.declared.target.Target.{Target}
use Rattle.bq_query_function.specs.Texts.{subject_text}
use Rattle.bq_query_function.specs.Matching.{is_match}
use Rattle.bq_query_function.proofs.Tests.{passes, Each, kept_more, kept_all, passes_at}
use Rattle.bq_query_function.proofs.matching.matching_by.Goals as goal

pub loop-at-preserved : goal.loop-at-preserved
loop-at-preserved c =
    let test : Target → Bool = λ t. is_match c.args.matcher.now (subject_text c.args.subject t) in
    let t = c.index-targets-at.result in
    let at = c.loop-at.at in
    let b = c.in_ok-kept.kept in
    let member = get_or c.args.x.now at false in
    let found : b ≡ (member && passes test c.args.targets.now at) =
    c.in_ok-kept.ensures.found
    ∙ (ap (λ pattern. member && is_match pattern (subject_text c.args.subject t)) c.loop-at.invariant.same
    ∙ ap (λ p. member && p) (sym (passes_at test c.args.targets.now at t c.loop-at-test.true c.index-targets-at.is))) in
    record {
      long = ap length c.in_ok-push.ensures.items ∙ (length_push c.loop-at.found.items b ∙ ap (λ n. n + 1) c.loop-at.invariant.long);
      each = rw c.in_ok-push.ensures.items (kept_more test c.args.targets.now c.args.x.now c.loop-at.found.items at b c.loop-at.invariant.long c.loop-at.invariant.each found);
      same = c.in_ok-kept.ensures.same ∙ c.loop-at.invariant.same;
    }

pub returns : goal.returns
returns c =
    let test : Target → Bool = λ t. is_match c.args.matcher.now (subject_text c.args.subject t) in
    let targets = c.args.targets.now in
    let end : c.loop-at.at ≡ length targets = omega arith in
    kept_all test targets c.args.x.now c.loop-at.found.items (c.loop-at.invariant.long ∙ end)
    (subst (λ (n : ℕ). Each test targets c.args.x.now n c.loop-at.found.items) end c.loop-at.invariant.each)
