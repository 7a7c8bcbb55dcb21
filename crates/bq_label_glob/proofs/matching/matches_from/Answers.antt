use Rattle.std.proofs.Common.{◌+◌, length, sym}
use Rattle.bq_label_glob.specs.Matching.{is_any_segments, fits_segment, segments_from, takes}
use Rattle.bq_label_glob.proofs.Greedy.{start, many_holds, many_less, one_holds, end_is, fail_holds}
use Rattle.bq_label_glob.proofs.matching.matches_from.Goals as goal

pub segments-init : goal.segments-init
segments-init c =
    start is_any_segments fits_segment (segments_from c.args.pattern.now 0) (segments_from c.args.path.now c.args.at)

pub segments-smaller-in-Many : goal.segments-smaller-in-Many
segments-smaller-in-Many c = many_less is_any_segments fits_segment (segments_from c.args.pattern.now) (segments_from c.args.path.now) (takes is_any_segments fits_segment (segments_from c.args.pattern.now 0) (segments_from c.args.path.now c.args.at)) (length (segments_from c.args.pattern.now 0)) (length (segments_from c.args.path.now c.args.at))
    c.segments.retry c.segments.p c.segments.t c.in-Many.next c.segments.invariant c.in-Many.ensures

pub segments-preserved-in-Many : goal.segments-preserved-in-Many
segments-preserved-in-Many c = many_holds is_any_segments fits_segment (segments_from c.args.pattern.now) (segments_from c.args.path.now) (takes is_any_segments fits_segment (segments_from c.args.pattern.now 0) (segments_from c.args.path.now c.args.at)) (length (segments_from c.args.pattern.now 0)) (length (segments_from c.args.path.now c.args.at))
    c.segments.retry c.segments.p c.segments.t c.in-Many.next c.segments.invariant c.in-Many.ensures

pub segments-preserved-in-One : goal.segments-preserved-in-One
segments-preserved-in-One c = one_holds is_any_segments fits_segment (segments_from c.args.pattern.now) (segments_from c.args.path.now) (takes is_any_segments fits_segment (segments_from c.args.pattern.now 0) (segments_from c.args.path.now c.args.at)) (length (segments_from c.args.pattern.now 0)) (length (segments_from c.args.path.now c.args.at))
    c.segments.retry c.segments.p c.segments.t c.in-One.next c.in-One.after c.segments.invariant c.in-One.ensures

pub returns-in-End : goal.returns-in-End
returns-in-End c = sym (end_is is_any_segments fits_segment (segments_from c.args.pattern.now) (segments_from c.args.path.now) (takes is_any_segments fits_segment (segments_from c.args.pattern.now 0) (segments_from c.args.path.now c.args.at)) (length (segments_from c.args.pattern.now 0)) (length (segments_from c.args.path.now c.args.at))
    c.segments.retry c.segments.p c.segments.t c.segments.invariant c.in-End.ensures)

pub segments-preserved : goal.segments-preserved
segments-preserved c = fail_holds is_any_segments fits_segment (segments_from c.args.pattern.now) (segments_from c.args.path.now) (takes is_any_segments fits_segment (segments_from c.args.pattern.now 0) (segments_from c.args.path.now c.args.at)) (length (segments_from c.args.pattern.now 0)) (length (segments_from c.args.path.now c.args.at))
    c.segments.retry c.in-Some.last c.segments.p c.segments.t (c.in-Some.last.text + length c.in-Some-segment_at.skipped.now + 1) c.in-Some-segment_at.skipped.now c.segments.invariant c.in-Fail.ensures c.in-Some.is c.in-Some-segment_at.ensures.cut
