-- Which texts are patterns of glob.
use Rattle.std.specs.Prelude.{ℕ, ◌&&◌, ◌||◌, Bool, false, not, nat_eq, List, [], ◌∷◌, Result, Ok, Err, codes, if◌then◌else◌}
use Rattle.std.specs.List.{list_all, slice_split, starts_with}
use Rattle.bq_base.specs.Fault.{fault_at}
use Rattle.bq_base.specs.declared.fault.EvalFault.{EvalFault}
use Rattle.bq_base.specs.declared.fault.Fault.{Fault}
use Rattle.bq_base.specs.declared.fault.EvalFault.TheVariants.{GlobPattern}
use Rattle.bq_label.specs.Paths.{is_slash, is_segment}
use Rattle.bq_label_glob.specs.Matching.{is_any_segments}

-- two stars in a row, somewhere in the segment
unfoldable pub has_two_stars : List ℕ → Bool
has_two_stars [] = false
has_two_stars (b ∷ bs) = starts_with nat_eq (b ∷ bs) (codes "**") || has_two_stars bs

-- not empty, neither `.` nor `..`, and without `**` but for the segment `**` itself
unfoldable pub is_pattern_segment : List ℕ → Bool
is_pattern_segment s = is_segment s && (is_any_segments s || not (has_two_stars s))

-- such segments, joined by `/`
unfoldable pub is_pattern : List ℕ → Bool
is_pattern text = list_all is_pattern_segment (slice_split is_slash text)

-- the text itself, or fault F77
unfoldable pub pattern_of : List ℕ → Result (List ℕ) (Fault EvalFault)
pattern_of text = if is_pattern text then Ok text else Err (fault_at GlobPattern 0)
