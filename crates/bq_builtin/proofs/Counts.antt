-- `all` and `any` by one element: all are true where none is false, and any is where one is.
use Rattle.std.proofs.Common.{◌≡◌, refl, Bool, true, false, not, cond, ◌&&◌, ◌||◌, List, [], ◌∷◌}
use Rattle.std.specs.List.{list_all, list_any}
use Rattle.bq_value.specs.Datum.{Datum}
use Rattle.bq_value.specs.Cells.{StoreView}
use Rattle.bq_value.specs.Truth.{truth_of}
use Rattle.bq_builtin.specs.Truths.{one_counts}

any_by : (b rest all : Bool) → rest ≡ all → cond b true rest ≡ (b || all)
any_by true rest all h = refl
any_by false rest all h = h

pub any_by_one : (s : StoreView) (xs : List Datum) → one_counts s true xs ≡ list_any (truth_of s) xs
any_by_one s [] = refl
any_by_one s (x ∷ xs) = any_by (truth_of s x) (one_counts s true xs) (list_any (truth_of s) xs) (any_by_one s xs)

all_by : (b rest all : Bool) → not rest ≡ all → not (cond (not b) true rest) ≡ (b && all)
all_by true rest all h = h
all_by false rest all h = refl

pub all_by_one : (s : StoreView) (xs : List Datum) → not (one_counts s false xs) ≡ list_all (truth_of s) xs
all_by_one s [] = refl
all_by_one s (x ∷ xs) = all_by (truth_of s x) (one_counts s false xs) (list_all (truth_of s) xs) (all_by_one s xs)
