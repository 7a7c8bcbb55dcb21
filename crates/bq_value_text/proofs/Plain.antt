-- The texts of strings and of plain values.
use Rattle.std.proofs.Common.{◌≡◌, ◌<◌, ◌≤◌, ◌+◌, ◌-◌, ◌∙◌, ℕ, zero, suc, ℤ, true, List, [], Option, Some, None, Ok, Err, cond, nat_le, length, ap, sym, refl, arith}
use Rattle.std.proofs.lemmas.Bool.Decides.{nat_tests}
use Rattle.std.specs.Fmt.{signed_decimal}
use Rattle.bq_base.specs.declared.fault.EvalFault.TheVariants.{StepLimit}
use Rattle.bq_source.specs.StringLiteral.{quoted}
use Rattle.bq_value.specs.Datum.{Datum, int, string}
use Rattle.bq_value.specs.Cells.{StoreView}
use Rattle.bq_value_text.specs.Page.{PageView, written, max_text}
use Rattle.bq_value_text.specs.Leaf.{leaf_written}
use Rattle.bq_value_text.specs.Shown.{repr_shown, string_in, text_by, finished_by, repr_of, text_of}

-- a text that fits is what is written onto an empty page
fits : (text : List ℕ) → length text ≤ max_text → written (Some []) text ≡ Some text
unfolding written
fits text h =
    let yes : nat_le (0 + length text) max_text ≡ true = grind (arith, nat_tests, h) in
    ap (λ b. cond b (Some text) None) yes

finished_text : (n : ℕ) (page : PageView) (text : List ℕ) → page ≡ Some text → finished_by (Ok (page, n)) ≡ Ok (text, n)
finished_text n page text e = ap (λ (p : PageView). finished_by (Ok (p, n))) e

pub text_of_string : (s : StoreView) (n : ℕ) (bytes : List ℕ) → length bytes ≤ max_text → text_of s (suc n) (string bytes) ≡ Ok (bytes, n)
text_of_string s n bytes h = finished_text n (written (Some []) bytes) bytes (fits bytes h)

pub repr_of_string : (s : StoreView) (n : ℕ) (bytes : List ℕ) → length (quoted bytes) ≤ max_text → repr_of s (suc n) (string bytes) ≡ Ok (quoted bytes, n)
unfolding repr_shown leaf_written
repr_of_string s n bytes h = finished_text n (written (Some []) (quoted bytes)) (quoted bytes) (fits (quoted bytes) h)

pub repr_of_int : (s : StoreView) (n : ℕ) (i : ℤ) → length (signed_decimal i) ≤ max_text → repr_of s (suc n) (int i) ≡ Ok (signed_decimal i, n)
unfolding repr_shown leaf_written
repr_of_int s n i h = finished_text n (written (Some []) (signed_decimal i)) (signed_decimal i) (fits (signed_decimal i) h)

pub text_of_int : (s : StoreView) (n : ℕ) (i : ℤ) → 0 < n → length (signed_decimal i) ≤ 40 → text_of s n (int i) ≡ Ok (signed_decimal i, n - 1)
text_of_int s zero i above h = absurd (omega (arith, above))
text_of_int s (suc n) i above h =
    let less : suc n - 1 ≡ n = omega arith in
    repr_of_int s n i (omega (arith, h)) ∙ ap (λ m. Ok (signed_decimal i, m)) (sym less)

pub no_text_of_int : (s : StoreView) (i : ℤ) → text_of s 0 (int i) ≡ Err StepLimit
unfolding repr_shown
no_text_of_int s i = refl

pub text_of_other : (s : StoreView) (n : ℕ) (v : Datum) → string_in v ≡ None → text_of s n v ≡ repr_of s n v
text_of_other s n v e = ap (λ (o : Option (List ℕ)). finished_by (text_by s (Some []) n v o)) e
