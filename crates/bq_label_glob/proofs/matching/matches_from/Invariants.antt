use Rattle.std.proofs.Common.{length}
use Rattle.bq_label_glob.specs.Matching.{takes, is_any_segments, fits_segment, segments_from}
use Rattle.bq_label_glob.proofs.Greedy.{HoldsAt, work_at}
use Rattle.bq_label_glob.proofs.matching.matches_from.Given as goal

abbrev pub invariant-segments : goal.invariant-segments
invariant-segments l = HoldsAt is_any_segments fits_segment (segments_from l.pattern) (segments_from l.path) (takes is_any_segments fits_segment (segments_from l.pattern 0) (segments_from l.path l.at)) (length (segments_from l.pattern 0)) (length (segments_from l.path l.at)) l.retry l.p l.t

abbrev pub decreases-segments : goal.decreases-segments
decreases-segments l = work_at is_any_segments fits_segment (segments_from l.pattern) (segments_from l.path) (length (segments_from l.pattern 0)) (length (segments_from l.path l.at)) l.retry l.p
