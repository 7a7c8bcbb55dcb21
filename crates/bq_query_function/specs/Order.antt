-- The labels of targets, written in full, in the order of their bytes.
use Rattle.std.specs.Prelude.{◌≡◌, ℕ, ◌<◌, ◌≤◌, Bool, true, false, List, [], map, length, slice_index_or, bytes_eq}
use Rattle.std.specs.List.Sorted.{IsStrictlySortedBy}
use Rattle.std.specs.declared.cmp.Ordering.{Ordering}
use Rattle.std.specs.Ordering.{nat_cmp, is_lt}
use Rattle.std.specs.Cmp.Lexicographic.{slice_cmp}
use Rattle.bq_label.specs.Label.{full_form}
use Rattle.bq_package_target.specs.declared.target.Target.{Target}

-- a target's label in full
abbrev pub text_of : Target → List ℕ
text_of t = full_form t.label

-- the target's label in full is this text
abbrev pub is_text : List ℕ → Target → Bool
is_text text t = bytes_eq (text_of t) text

-- the labels of targets in full, in the order of the targets
abbrev pub texts_of : List Target → List (List ℕ)
texts_of targets = map text_of targets

-- targets by the bytes of their labels in full
abbrev pub by_text : Target → Target → Ordering
by_text a b = slice_cmp nat_cmp (text_of a) (text_of b)

-- the label in full of each target is below that of the next, by its bytes
abbrev pub AreInOrder : List Target → Type 0
AreInOrder targets = IsStrictlySortedBy by_text targets

-- one text comes before another
abbrev pub is_below : List ℕ → List ℕ → Bool
is_below a b = is_lt (slice_cmp nat_cmp a b)

-- the texts before this place, and those alone, come before the text
pub record IsPlaceOf (texts : List (List ℕ)) (text : List ℕ) (at : ℕ) : Type 0 where
  pub within : at ≤ length texts
  pub before : (k : ℕ) → k < at → is_below (slice_index_or texts k []) text ≡ true
  pub after : (k : ℕ) → at ≤ k → k < length texts → is_below (slice_index_or texts k []) text ≡ false
