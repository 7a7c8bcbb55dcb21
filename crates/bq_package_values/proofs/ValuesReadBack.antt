-- The text of a value reads as that value.
use Rattle.std.proofs.Common.{◌≡◌, ℕ, ℤ, pos, negsuc, zero, suc, ◌+◌, ◌%◌, ◌<◌, ◌^◌, Bool, true, false, ◌&&◌, List, [], ◌∷◌, ◌++◌, length, Some, take, drop, refl, sym, ap, ◌∙◌, subst, arith}
use Rattle.std.specs.Prelude.{cond, decimal}
use Rattle.std.specs.Fmt.{signed_decimal}
use Rattle.std.specs.List.{flat_map, list_all, prefix_len}
use Rattle.std.specs.Str.{encode_utf8_all}
use Rattle.std.proofs.lemmas.Str.{encode_ascii}
use lib.Signed.{mag}
use lib.Seq.{take-append_seam, drop-append_seam}
use Rattle.std.proofs.lemmas.Bool.Decides.{nat_tests}
use Rattle.std.proofs.lemmas.Bool.{and_from, and_parts, cond-true}
use Rattle.std.proofs.lemmas.Fmt.{decimal_by_steps}
use Rattle.std.proofs.lemmas.List.Folds.{list_all-append}
use Rattle.std.proofs.lemmas.List.{append_assoc}
use Rattle.bq_package_values.specs.CodePoints.{AreBytes, code_points}
use Rattle.bq_package_values.specs.JsonGrammar.{Reads, of_string, of_number, of_truth, of_array, of_object, ReadsItems, no_item, first_item, ReadsMoreItems, last_item, next_item, ReadsFields, no_field, first_field, ReadsMoreFields, last_field, next_field, StringAt, is_of_number, number_len, IsWritable, ItemsAreWritable, FieldsAreWritable, EndsNumber}
use Rattle.bq_package_values.specs.JsonValue.{Json, string, number, truth, array, object, Items, no_items, item, Fields, no_fields, field, value_text, items_text, more_items, fields_text, more_fields}
use Rattle.bq_package_values.specs.JsonString.{json_string, json_char}
use Rattle.bq_package_values.specs.JsonReading.{reads_string}
use Rattle.bq_package_values.proofs.ReadsBack.{string_reads_back}

-- ---- strings

abbrev after_quote : List ℕ → List ℕ
after_quote bs = encode_utf8_all (flat_map json_char (code_points bs) ++ 34 ∷ [])

opens : (bs : List ℕ) → json_string bs ≡ 34 ∷ after_quote bs
unfolding json_string
opens bs = ap (λ t. t ++ after_quote bs) (encode_ascii 34 (omega arith))

string_at : (bs rest : List ℕ) → AreBytes bs → StringAt bs (json_string bs ++ rest) rest
string_at bs rest all = record {
  after_quote = after_quote bs;
  reads = ap reads_string (sym (opens bs)) ∙ string_reads_back bs all;
  front = ap (λ t. t ++ rest) (opens bs);
}

-- ---- numbers

number_byte : (c : ℕ) → c < 10 → is_of_number (48 + c) ≡ true
number_byte c small = grind (arith, nat_tests)

abbrev AreOfNumber : List ℕ → Type 0
AreOfNumber ds = (0 < length ds) × (list_all is_of_number ds ≡ true)

decimal_of_number : (n : ℕ) → n < 2 ^ 64 → AreOfNumber (decimal n)
decimal_of_number = decimal_by_steps (λ m ds. AreOfNumber ds) (λ m l. (omega arith, and_from _ _ (number_byte m l) refl))
    (λ m ds l h. (longer ds ((48 + m % 10) ∷ []) h.0, list_all-append is_of_number ds ((48 + m % 10) ∷ []) ∙ and_from _ _ h.1 (and_from _ _ (number_byte (m % 10) (omega arith)) refl))) where
      longer : (xs ys : List ℕ) → 0 < length xs → 0 < length (xs ++ ys)
      longer (x ∷ xs) ys h = omega arith
      longer [] ys h = absurd (omega arith)

signed_of_number : (z : ℤ) → mag z < 2 ^ 63 → AreOfNumber (signed_decimal z)
signed_of_number (pos n) small = decimal_of_number n (omega arith)
signed_of_number (negsuc n) small = (omega arith, and_from _ _ refl (decimal_of_number (suc n) (omega arith)).1)

number_ends : (ds rest : List ℕ) → list_all is_of_number ds ≡ true → EndsNumber rest → number_len (ds ++ rest) ≡ length ds
number_ends [] rest all ends = ends
number_ends (d ∷ ds) rest all ends =
    let both = and_parts (is_of_number d) _ all in one_more (is_of_number d) _ _ both.0 (number_ends ds rest both.1 ends) where
      one_more : (yes : Bool) (n m : ℕ) → yes ≡ true → n ≡ m → cond yes (1 + n) 0 ≡ suc m
      one_more true n m is e = omega arith
      one_more false n m is e = absurd (cc)

number_at : (n : ℤ) (ds rest : List ℕ) → ds ≡ signed_decimal n → mag n < 2 ^ 63 → AreOfNumber ds → EndsNumber rest → Reads (number n) (ds ++ rest) rest
number_at n [] rest is small all ends = absurd (omega arith)
number_at n (d ∷ ds) rest is small all ends =
    let len = number_ends (d ∷ ds) rest all.1 ends in
    of_number small refl (and_parts (is_of_number d) _ all.1).0 (ap (λ k. take k ((d ∷ ds) ++ rest)) len ∙ take-append_seam (d ∷ ds) rest ∙ is)
    (sym (ap (λ k. drop k ((d ∷ ds) ++ rest)) len ∙ drop-append_seam (d ∷ ds) rest))

-- ---- values

-- after a value there is a comma or a closing bracket
more_items_end : (xs : Items) (rest : List ℕ) → EndsNumber (more_items xs ++ rest)
more_items_end no_items rest = refl
more_items_end (item x xs) rest = refl

more_fields_end : (fs : Fields) (rest : List ℕ) → EndsNumber (more_fields fs ++ rest)
more_fields_end no_fields rest = refl
more_fields_end (field key x fs) rest = refl

from_text : {v : Json} {t u rest : List ℕ} → t ≡ u → Reads v u rest → Reads v t rest
from_text {v} {t} {u} {rest} e reads = subst (λ (z : List ℕ). Reads v z rest) (sym e) reads

key_at : (key more rest : List ℕ) → AreBytes key → StringAt key ((json_string key ++ (58 ∷ more)) ++ rest) (58 ∷ (more ++ rest))
key_at key more rest all = subst (λ (z : List ℕ). StringAt key z (58 ∷ (more ++ rest))) (sym (append_assoc (json_string key) (58 ∷ more) rest)) (string_at key (58 ∷ (more ++ rest)) all)

mutual
  pub reads_back : (v : Json) (rest : List ℕ) → IsWritable v → EndsNumber rest → Reads v (value_text v ++ rest) rest
  reads_back (string bs) rest all ends = of_string (string_at bs rest all)
  reads_back (number n) rest small ends = number_at n (signed_decimal n) rest refl small (signed_of_number n small) ends
  reads_back (truth b) rest all ends = of_truth refl
  reads_back (array xs) rest all ends = of_array refl (items_back xs rest all)
  reads_back (object fs) rest all ends = of_object refl (fields_back fs rest all)

  items_back : (xs : Items) (rest : List ℕ) → ItemsAreWritable xs → ReadsItems xs (items_text xs ++ rest) rest
  items_back no_items rest all = no_item refl
  items_back (item x xs) rest all =
      first_item (from_text (append_assoc (value_text x) (more_items xs) rest) (reads_back x (more_items xs ++ rest) all.0 (more_items_end xs rest))) (more_items_back xs rest all.1)

  more_items_back : (xs : Items) (rest : List ℕ) → ItemsAreWritable xs → ReadsMoreItems xs (more_items xs ++ rest) rest
  more_items_back no_items rest all = last_item refl
  more_items_back (item x xs) rest all =
      next_item refl (from_text (append_assoc (value_text x) (more_items xs) rest) (reads_back x (more_items xs ++ rest) all.0 (more_items_end xs rest))) (more_items_back xs rest all.1)

  fields_back : (fs : Fields) (rest : List ℕ) → FieldsAreWritable fs → ReadsFields fs (fields_text fs ++ rest) rest
  fields_back no_fields rest all = no_field refl
  fields_back (field key x fs) rest all =
      first_field (key_at key (value_text x ++ more_fields fs) rest all.0)
      (from_text (append_assoc (value_text x) (more_fields fs) rest) (reads_back x (more_fields fs ++ rest) all.1 (more_fields_end fs rest))) (more_fields_back fs rest all.2)

  more_fields_back : (fs : Fields) (rest : List ℕ) → FieldsAreWritable fs → ReadsMoreFields fs (more_fields fs ++ rest) rest
  more_fields_back no_fields rest all = last_field refl
  more_fields_back (field key x fs) rest all =
      next_field refl (key_at key (value_text x ++ more_fields fs) rest all.0)
      (from_text (append_assoc (value_text x) (more_fields fs) rest) (reads_back x (more_fields fs ++ rest) all.1 (more_fields_end fs rest))) (more_fields_back fs rest all.2)
