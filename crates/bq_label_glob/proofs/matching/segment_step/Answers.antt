use Rattle.std.proofs.Common.{◌≡◌, ◌∙◌, ◌+◌, false, length, sym, arith, rules, tests}
use Rattle.std.proofs.lemmas.Grind.{common_steps}
use Rattle.bq_label_glob.specs.Matching.{is_any_segments, fits_segment, segments_from}
use Rattle.bq_label_glob.proofs.Greedy.{fails_without_pattern, fails_without_text, fails_misfit}
use Rattle.bq_label_glob.proofs.matching.segment_step.Goals as goal

pub returns-in-Some-segment_at : goal.returns-in-Some-segment_at
returns-in-Some-segment_at c = fails_without_pattern is_any_segments fits_segment (segments_from c.args.pattern.now) (segments_from c.args.path.now) c.args.p c.args.t
    c.in-Some-segment_at.field-0.now (segments_from c.args.path.now (c.args.t + length c.in-Some-segment_at.field-0.now + 1))
    c.in_default.ensures.cut c.in-Some-segment_at.ensures.cut

pub returns-in_default-segment_at : goal.returns-in_default-segment_at
returns-in_default-segment_at c =
    let any : is_any_segments c.in-Some.wanted.now ≡ false = first_of (search (rules, tests), grind (arith, common_steps)) in
    fails_without_text is_any_segments fits_segment (segments_from c.args.pattern.now) (segments_from c.args.path.now) c.args.p c.args.t
    c.in-Some.wanted.now (segments_from c.args.pattern.now (c.args.p + length c.in-Some.wanted.now + 1))
    c.in-Some.ensures.cut any c.in_default-segment_at.ensures.cut

pub returns-then-not-fits_segment : goal.returns-then-not-fits_segment
returns-then-not-fits_segment c =
    let any : is_any_segments c.in-Some.wanted.now ≡ false = first_of (search (rules, tests), grind (arith, common_steps)) in
    fails_misfit is_any_segments fits_segment (segments_from c.args.pattern.now) (segments_from c.args.path.now) c.args.p c.args.t
    c.in-Some.wanted.now (segments_from c.args.pattern.now (c.args.p + length c.in-Some.wanted.now + 1))
    c.in-Some-segment_at-2.segment.now (segments_from c.args.path.now (c.args.t + length c.in-Some-segment_at-2.segment.now + 1))
    c.in-Some.ensures.cut any c.in-Some-segment_at-2.ensures.cut (sym c.fits_segment.ensures ∙ c.if-not-fits_segment.true)
