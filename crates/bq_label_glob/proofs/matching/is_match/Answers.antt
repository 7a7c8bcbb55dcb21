use Rattle.std.proofs.Common.{◌≡◌, ◌∙◌, false, is_some, sym, arith, rules, tests}
use Rattle.std.proofs.lemmas.Grind.{common_steps}
use Rattle.bq_label_glob.specs.Matching.{is_any_segments}
use Rattle.bq_label_glob.proofs.Segments.{matches_from_start}
use Rattle.bq_label_glob.proofs.Ends.{turned, cut_none, cut_some, both_are_left, pattern_is_left, path_is_left, misfit_at_end}
use Rattle.bq_label_glob.proofs.matching.is_match.Goals as goal

pub returns-then-eq : goal.returns-then-eq
returns-then-eq c = c.matches_from.ensures ∙ (sym (matches_from_start c.ends.wanted.now c.ends.rest.now) ∙ sym c.ends.invariant)

pub returns-then-not-fits_segment : goal.returns-then-not-fits_segment
returns-then-not-fits_segment c =
    let wanted = c.ends.wanted.now in
    let rest = c.ends.rest.now in
    let last = c.split_last.result.1.now in
    let segment = c.split_last-in-ends.result.1.now in
    let single : is_any_segments last ≡ false = first_of (search (rules, tests), grind (arith, common_steps)) in
    sym (c.ends.invariant
    ∙ misfit_at_end wanted rest last segment single (λ b. b.now) (λ b. b.now) c.split_last.result.0 c.split_last-in-ends.result.0 c.split_last.ensures.cut c.split_last-in-ends.ensures.cut (sym c.fits_segment.ensures ∙ c.if-not-fits_segment.true))

pub returns-in_default : goal.returns-in_default
returns-in_default c =
    let wanted = c.ends.wanted.now in
    let rest = c.ends.rest.now in
    let last = c.split_last.result.1.now in
    let segment = c.split_last-in-ends.result.1.now in
    let single : is_any_segments last ≡ false = first_of (search (rules, tests), grind (arith, common_steps)) in
    turned (is_some c.split_last-in-ends.result.0) c.is_none.result c.is_none.ensures ∙ sym (c.ends.invariant
    ∙ path_is_left wanted rest last segment single (λ b. b.now) c.split_last-in-ends.result.0 (cut_none (λ b. b.now) c.split_last.result.0 wanted last c.split_last.ensures.cut c.in_default.is) c.split_last-in-ends.ensures.cut (sym c.fits_segment.ensures ∙ c.if-not-fits_segment.false))

pub returns-in_default-before : goal.returns-in_default-before
returns-in_default-before c =
    let wanted = c.ends.wanted.now in
    let rest = c.ends.rest.now in
    let last = c.split_last.result.1.now in
    let segment = c.split_last-in-ends.result.1.now in
    let single : is_any_segments last ≡ false = first_of (search (rules, tests), grind (arith, common_steps)) in
    c.matches_from-in_default-before.ensures ∙ sym (c.ends.invariant
    ∙ pattern_is_left wanted rest last segment single c.in-Some.more.now (cut_some (λ b. b.now) c.split_last.result.0 wanted last c.in-Some.more c.split_last.ensures.cut c.in-Some.is)
    (cut_none (λ b. b.now) c.split_last-in-ends.result.0 rest segment c.split_last-in-ends.ensures.cut c.in_default-before.is) (sym c.fits_segment.ensures ∙ c.if-not-fits_segment.false))

pub ends-preserved : goal.ends-preserved
ends-preserved c =
    let wanted = c.ends.wanted.now in
    let rest = c.ends.rest.now in
    let last = c.split_last.result.1.now in
    let segment = c.split_last-in-ends.result.1.now in
    let single : is_any_segments last ≡ false = first_of (search (rules, tests), grind (arith, common_steps)) in
    c.ends.invariant
    ∙ both_are_left wanted rest last segment single c.in-Some.more.now c.in-Some-before.before.now (cut_some (λ b. b.now) c.split_last.result.0 wanted last c.in-Some.more c.split_last.ensures.cut c.in-Some.is)
    (cut_some (λ b. b.now) c.split_last-in-ends.result.0 rest segment c.in-Some-before.before c.split_last-in-ends.ensures.cut c.in-Some-before.is) (sym c.fits_segment.ensures ∙ c.if-not-fits_segment.false)
