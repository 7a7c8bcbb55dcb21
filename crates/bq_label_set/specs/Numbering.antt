-- Where labels are found, and the order of those whose hashes collide.
use Rattle.std.specs.Prelude.{◌≡◌, ◌⊎◌, ℕ, List, Option, Some, slice_get}
use Rattle.std.specs.BTreeMap.{BTreeMap, get}
use Rattle.std.specs.Cmp.{IsTotalOrder, on_total, then_total}
use Rattle.std.specs.Cmp.Lexicographic.{slice_cmp, nat_list_cmp_total}
use Rattle.std.specs.Hash.FoldHasher.{initial, write, finish}
use Rattle.std.specs.Ordering.{nat_cmp, on, then_cmp}
use Rattle.std.specs.declared.cmp.Ordering.{Ordering}
use Rattle.bq_label.specs.Label.{LabelParts}

-- by the name, then by the package, then by the repository
abbrev pub label_cmp : LabelParts → LabelParts → Ordering
label_cmp =
    then_cmp (then_cmp
    (on (λ l. l.name) (slice_cmp nat_cmp))
    (on (λ l. l.package) (slice_cmp nat_cmp)))
    (on (λ l. l.repo) (slice_cmp nat_cmp))

-- the order of labels is total: reversed where two are swapped, transitive, and alike for those that compare as equal
pub label_cmp_total : IsTotalOrder label_cmp
label_cmp_total =
    then_total (then_total
    (on_total (λ l. l.name) nat_list_cmp_total)
    (on_total (λ l. l.package) nat_list_cmp_total))
    (on_total (λ l. l.repo) nat_list_cmp_total)

-- the hash of a label: what a hasher gives that begins anew and takes the name, the package and the repository
abbrev pub hash_of : LabelParts → ℕ
hash_of l = finish (write (write (write initial l.name) l.package) l.repo)

-- the number of the first label of the same hash
abbrev pub first_number : BTreeMap ℕ ℕ → LabelParts → Option ℕ
first_number by_hash l = get nat_cmp by_hash (hash_of l)

-- the number of a label whose hash collides with that of another
abbrev pub colliding_number : BTreeMap LabelParts ℕ → LabelParts → Option ℕ
colliding_number colliding l = get label_cmp colliding l

-- one of the maps has this number for the label
abbrev pub HasNumber : BTreeMap ℕ ℕ → BTreeMap LabelParts ℕ → LabelParts → ℕ → Type 0
HasNumber by_hash colliding l i = (first_number by_hash l ≡ Some i) ⊎ (colliding_number colliding l ≡ Some i)

-- no label is there twice, and each has its number
pub record AreNumbered (labels : List LabelParts) (by_hash : BTreeMap ℕ ℕ) (colliding : BTreeMap LabelParts ℕ) : Type 0 where
  pub differ : (i j : ℕ) (l : LabelParts) → slice_get labels i ≡ Some l → slice_get labels j ≡ Some l → i ≡ j
  pub numbered : (i : ℕ) (l : LabelParts) → slice_get labels i ≡ Some l → HasNumber by_hash colliding l i
