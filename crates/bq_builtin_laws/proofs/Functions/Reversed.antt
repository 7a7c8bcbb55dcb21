-- Lists that go backwards.
use Rattle.std.proofs.Common.{◌≡◌, ◌∙◌, sym, ap, ℕ, ◌+◌, ◌-◌, ◌<◌, Bool, true, false, inl, inr, cond, List, [], ◌∷◌, length, get_or, Some, Ok, Err, arith}
use Rattle.std.specs.Prelude.{reverse, slice_get, nat_le}
use Rattle.std.proofs.lemmas.List.{reverse-reverse, length-reverse, get_or-reverse}
use Rattle.std.proofs.lemmas.Option.{slice_get_cases, slice_get-get_or}
use Rattle.bq_base.specs.declared.fault.EvalFault.TheVariants.{TooLong}
use Rattle.bq_builtin_strings.specs.Length.{max_len}
use Rattle.bq_value.specs.Cells.{StoreView}
use Rattle.bq_value.specs.Datum.{Datum, tuple, data_of, list_of_data_of}
use Rattle.bq_builtin_machine.specs.Iteration.{elements_in}
use Rattle.bq_builtin.specs.Arguments as arguments
use Rattle.bq_builtin.specs.Arguments.{only_argument}
use Rattle.bq_builtin_machine.specs.Answer.{and_then}
use Rattle.bq_builtin_methods.specs.Arguments.{one_argument}
use Rattle.bq_builtin.specs.Elements.{room_for, listed}
use Rattle.bq_builtin.specs.Sequences.{reversed}
use Rattle.bq_builtin_laws.specs.Functions.Words.{by_place}

-- what is listed is what there is
listed_by : (b : Bool) (xs ys : List Datum) → and_then (and_then (cond b (Ok tt) (Err TooLong)) (λ (u : Unit {0}). Ok xs)) (λ zs. Ok (reverse zs)) ≡ Ok ys → ys ≡ reverse xs
listed_by true xs ys h = cc
listed_by false xs ys h = absurd (cc)

pub reversed_is : (s : StoreView) (x : Datum) (xs ys : List Datum) → elements_in s x ≡ Ok xs → reversed s (by_place (x ∷ [])) ≡ Ok ys → ys ≡ reverse xs
unfolding reversed only_argument arguments.by_place one_argument listed room_for
reversed_is s x xs ys known h =
    listed_by (nat_le (length xs) max_len) xs ys (ap (λ r. and_then (and_then r (λ zs. and_then (cond (nat_le (length zs) max_len) (Ok tt) (Err TooLong)) (λ (u : Unit {0}). Ok zs))) (λ zs. Ok (reverse zs))) (sym known) ∙ h)

turned_at : (xs : List Datum) (i j : ℕ) → i + j + 1 ≡ length xs → slice_get (reverse xs) i ≡ slice_get xs j
turned_at xs i j place = elim ((slice_get_cases xs j).1) [
  | inl c ↦
      let within : i < length xs = omega (arith, place) in
      let turned : i < length (reverse xs) = rw (length-reverse xs) within in
      let other : length xs - 1 - i ≡ j = omega (arith, place) in
      slice_get-get_or (reverse xs) i c.0 turned ∙ (ap Some (get_or-reverse xs i c.0 within ∙ (ap (λ n. get_or xs n c.0) other ∙ c.3)) ∙ sym c.2)
  | inr past ↦ absurd (omega (arith, place, past.0))
]

pub mirrored : (s : StoreView) (x : Datum) (xs ys : List Datum) → elements_in s x ≡ Ok xs → reversed s (by_place (x ∷ [])) ≡ Ok ys → (i j : ℕ) → i + j + 1 ≡ length xs → slice_get ys i ≡ slice_get xs j
mirrored s x xs ys known h i j place = ap (λ zs. slice_get zs i) (reversed_is s x xs ys known h) ∙ turned_at xs i j place

pub twice : (s : StoreView) (x : Datum) (xs ys zs : List Datum) → elements_in s x ≡ Ok xs → reversed s (by_place (x ∷ [])) ≡ Ok ys → reversed s (by_place (tuple (data_of ys) ∷ [])) ≡ Ok zs → zs ≡ xs
twice s x xs ys zs known h k =
    let again = reversed_is s (tuple (data_of ys)) ys zs (ap Ok (list_of_data_of ys)) k in
    again ∙ (ap reverse (reversed_is s x xs ys known h) ∙ reverse-reverse xs)
