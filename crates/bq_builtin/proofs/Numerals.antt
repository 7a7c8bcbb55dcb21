-- What `parse` reads of a sign and digits.
use Rattle.std.proofs.Common.{◌≡◌, ◌∙◌, refl, sym, ap, subst, ℕ, ◌<◌, ℤ, Bool, true, false, cond, ◌&&◌, ◌==◌, List, [], ◌∷◌, length, drop, get_or, nat_lt, arith, Option, Result, Ok, Err, SomeIff, FitsSigned, IsUtf8, IsAscii}
use Rattle.std.specs.Int.{w64, IsInRange}
use Rattle.std.specs.Result.{result_ok}
use Rattle.std.specs.Cmp.{unsigned_Decides}
use Rattle.std.specs.Str.{all_ascii_digits}
use Rattle.std.specs.Str.Parse.{IsNumeral, without_leading_sign, signed_digits_value, ParsesSigned, digits_value}
use Rattle.std.proofs.lemmas.Bool.Decides.{nat_tests}
use Rattle.std.proofs.lemmas.Str.{IsUtf8-from_ascii}
use Rattle.std.proofs.lemmas.Str.Ascii.{IsAscii-nil, IsAscii-cons, IsAscii-from_reads}
use Rattle.std.proofs.lemmas.Str.Parse.{tells_all_ascii_digits, numerals_by_value, IsNumeralModel, digit_at}
use Rattle.std.specs.Prelude.{ok_or}
use Rattle.bq_base.specs.declared.fault.EvalFault.{EvalFault}
use Rattle.bq_base.specs.declared.fault.EvalFault.TheVariants.{Overflow, BadValue}
use Rattle.bq_builtin_strings.specs.Integer.{fitted, Fitted}
use Rattle.bq_builtin_strings.proofs.Fits.{fitted_is}
use Rattle.bq_builtin.specs.Integers.{is_numeral, read_integer}

pub own : IsNumeralModel (λ ds. all_ascii_digits ds ≡ true) (digits_value 10)
own = numerals_by_value _ tells_all_ascii_digits

parts : (a b : Bool) → (a && b) ≡ true → (a ≡ true) × (b ≡ true)
parts true b h = (refl, h)
parts false b h = absurd (cc)

numeral_of : (ds : List ℕ) → is_numeral ds ≡ true → IsNumeral 10 ds
numeral_of ds h =
    let both = parts (nat_lt 0 (length ds)) (all_ascii_digits ds) h in
    let some = both.0 in
    (grind (arith, nat_tests, some), own.to ds both.1)

below_128 : (c : ℕ) → IsInRange 48 57 c → c < 128
below_128 c h = omega (arith, h.0, h.1)

ascii_numeral : (ds : List ℕ) → is_numeral ds ≡ true → IsAscii ds
ascii_numeral ds h = IsAscii-from_reads ds (length ds) (omega arith) (λ k below. below_128 (get_or ds k 0) (digit_at ds k ((numeral_of ds h).1) below))

signed_by : (b : ℕ) (rest : List ℕ) (minus plus : Bool) → (b == 45) ≡ minus → (b == 43) ≡ plus → is_numeral (cond minus rest (drop (cond plus 1 0) (b ∷ rest))) ≡ true → IsAscii (b ∷ rest)
signed_by b rest true plus m p h = let small : b < 128 = omega (arith, (unsigned_Decides b 45).0 m) in IsAscii-cons b rest small (ascii_numeral rest h)
signed_by b rest false true m p h = let small : b < 128 = omega (arith, (unsigned_Decides b 43).0 p) in IsAscii-cons b rest small (ascii_numeral rest h)
signed_by b rest false false m p h = ascii_numeral (b ∷ rest) h

signed_ascii : (bs : List ℕ) → is_numeral (without_leading_sign bs) ≡ true → IsAscii bs
signed_ascii [] h = IsAscii-nil
signed_ascii (b ∷ rest) h = signed_by b rest (b == 45) (b == 43) refl refl h

-- a sign and digits are text
pub signed_text : (bs : List ℕ) → is_numeral (without_leading_sign bs) ≡ true → IsUtf8 bs
signed_text bs h = IsUtf8-from_ascii bs (signed_ascii bs h)

pub parsed_is : {E : Type 0} (bs text : List ℕ) (r : Result ℤ E) → text ≡ bs → is_numeral (without_leading_sign bs) ≡ true → ParsesSigned w64 10 text r → SomeIff (result_ok r) (FitsSigned w64 (signed_digits_value 10 bs)) (signed_digits_value 10 bs)
parsed_is {E} bs text r e h p = by r (subst (λ (t : List ℕ). ParsesSigned w64 10 t r) e p)
  where
    by : (r : Result ℤ E) → ParsesSigned w64 10 bs r → SomeIff (result_ok r) (FitsSigned w64 (signed_digits_value 10 bs)) (signed_digits_value 10 bs)
    by (Ok x) p = (p.0.1, p.1)
    by (Err e) p = λ f. p (numeral_of (without_leading_sign bs) h, f)

pub read_of : (text : List ℕ) (o : Option ℤ) → is_numeral (without_leading_sign text) ≡ true → Fitted o (signed_digits_value 10 text) → ok_or o Overflow ≡ read_integer text
unfolding read_integer
read_of text o n h =
    fitted_is o (signed_digits_value 10 text) h
    ∙ sym (ap (λ (b : Bool). cond {A = Result ℤ EvalFault} b (fitted (signed_digits_value 10 text)) (Err BadValue)) n)
