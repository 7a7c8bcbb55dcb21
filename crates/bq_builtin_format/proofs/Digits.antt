-- The number of a field, a digit at a time.
use Rattle.std.proofs.Common.{◌≡◌, ◌∙◌, ℕ, ◌+◌, ◌*◌, ◌^◌, ◌<◌, ◌≤◌, List, [], ◌∷◌, None, Some, length, drop, get_or, refl, sym, ap, arith}
use Rattle.std.proofs.lemmas.List.{drop_more, drop_all}
use Rattle.std.proofs.lemmas.Option.{slice_get_past, slice_get_read}
use Rattle.std.specs.Prelude.{slice_get, option_copied, Option, MatchOption}
use Rattle.std.specs.Borrow.{Bor}
use Rattle.std.specs.Char.{digit_value}
use Rattle.std.specs.Str.Parse.{digits_value, digits_value_after}

-- more digits make no smaller number
after_ge : (n : ℕ) (ds : List ℕ) → n ≤ digits_value_after 10 n ds
after_ge n [] = omega arith
after_ge n (c ∷ cs) = let more = after_ge (n * 10 + digit_value c) cs in omega (arith, more)

-- a number that fits no word is past the end of each list
pub none_there : {A : Type 0} (values : List A) (digits : List ℕ) (n i : ℕ) → i < length digits → length values < 2 ^ 64 → (n * 10 + digit_value (get_or digits i 0) < 2 ^ 64 → ⊥) → digits_value 10 digits ≡ digits_value_after 10 n (drop i digits)
    → slice_get values (digits_value 10 digits) ≡ None
none_there values digits n i within few over same =
    let next : ℕ = n * 10 + digit_value (get_or digits i 0) in
    let more : digits_value 10 digits ≡ digits_value_after 10 next (drop (i + 1) digits) = same ∙ ap (digits_value_after 10 n) (drop_more digits i 0 within) in
    let above = after_ge next (drop (i + 1) digits) in
    slice_get_past values (digits_value 10 digits) (omega (arith, above, more, few, over))

pub value_there : {A : Type 0} (values : List A) (digits : List ℕ) (n i : ℕ) → length digits ≤ i → digits_value 10 digits ≡ digits_value_after 10 n (drop i digits) → slice_get values n ≡ slice_get values (digits_value 10 digits)
value_there values digits n i end same = ap (slice_get values) (sym (same ∙ ap (digits_value_after 10 n) (drop_all i digits end)))

pub value_at : {A : Type 0} (values : List A) (r : Option (Bor A)) (n : ℕ) → MatchOption r (length values ≤ n) (λ x. (n < length values) × ((d : A) → x.now ≡ get_or values n d)) → option_copied r ≡ slice_get values n
value_at values None n past = sym (slice_get_past values n past)
value_at values (Some x) n at = sym (slice_get_read values (length values) n x.now refl (at.0) (at.1 x.now))
