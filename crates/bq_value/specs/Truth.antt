-- What counts as true (Starlark, "Booleans"): all but `None`, `False`, 0, and what is empty.
use Rattle.std.specs.Prelude.{Bool, true, false, not, pos, List, [], ◌∷◌, Option, Some, None, ◌==◌}
use Rattle.std.specs.Ordering.{int_eq}
use Rattle.bq_value.specs.Datum.{Datum, none, boolean, int, string, tuple, range, cell, list_of}
use Rattle.bq_value.specs.Range.{range_count}
use Rattle.bq_value.specs.Contents.{Contents, items, pairs, rule}
use Rattle.bq_value.specs.Cells.{StoreView, content_at}

-- it isn't empty
abbrev pub some_element : {A : Type 0} → List A → Bool
some_element [] = false
some_element (x ∷ xs) = true

-- the truth of what a cell holds
abbrev pub content_truth : Option Contents → Bool
content_truth None = false
content_truth (Some (items xs)) = some_element xs
content_truth (Some (pairs ps)) = some_element ps
content_truth (Some (rule c)) = true

-- the truth of a value
abbrev pub truth_of : StoreView → Datum → Bool
truth_of s none = false
truth_of s (boolean b) = b
truth_of s (int n) = not (int_eq n (pos 0))
truth_of s (string t) = some_element t
truth_of s (tuple xs) = some_element (list_of xs)
truth_of s (range a b c) = not (range_count a b c == 0)
truth_of s (cell m i) = content_truth (content_at s m i)
truth_of s _ = true
