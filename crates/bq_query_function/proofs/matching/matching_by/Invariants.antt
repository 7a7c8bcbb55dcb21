use Rattle.std.proofs.Common.{◌≡◌, ◌<◌, ℕ, false, get_or, length}
use Rattle.std.specs.Prelude.{◌&&◌}
use Rattle.bq_query_function.specs.Texts.{subject_text}
use Rattle.bq_query_function.specs.Matching.{is_match}
use Rattle.bq_query_function.proofs.Tests.{passes}
use Rattle.bq_query_function.proofs.matching.matching_by.Given as goal

abbrev pub invariant-loop-at : goal.invariant-loop-at
invariant-loop-at l = record {
  long : length l.found.items ≡ l.at;
  each : (k : ℕ) → k < l.at → get_or l.found.items k false ≡ (get_or l.x k false && passes (λ t. is_match l.fn.matcher (subject_text l.subject t)) l.targets k);
  same : l.matcher ≡ l.fn.matcher;
}
