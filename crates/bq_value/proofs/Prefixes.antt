-- Lists one of which ends where the other goes on.
use Rattle.std.proofs.Common.{◌≡◌, ◌∙◌, ◌≤◌, ◌<◌, ℕ, List, [], ap, Ok, length, drop}
use Rattle.std.proofs.Math.Seq.{drop-cons}
use Rattle.std.proofs.Math.ListN.{drop_of_length-le}
use Rattle.std.specs.declared.cmp.Ordering.TheVariants.{Less}
use Rattle.bq_value.specs.Datum.{Datum, none}
use Rattle.bq_value.specs.Equality.{Compares}
use Rattle.bq_value.specs.Order.{Orders, lists_ordered}

-- the list that ends first is less
pub shorter_is_less : (same : Compares) (order : Orders) (n i : ℕ) (xs ys : List Datum) → length xs ≤ i → i < length ys
    → lists_ordered same order n (drop i xs) (drop i ys) ≡ Ok (Less, n)
shorter_is_less same order n i xs ys past within =
    ap (λ zs. lists_ordered same order n zs (drop i ys)) (drop_of_length-le xs past)
    ∙ ap (lists_ordered same order n []) (drop-cons ys i none within)
