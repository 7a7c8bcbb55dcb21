-- How long a string is in which a text was replaced.
use Rattle.std.proofs.Common.{◌≡◌, ◌∙◌, ℕ, zero, suc, ◌+◌, ◌-◌, ◌*◌, ◌<◌, ◌≤◌, ◌++◌, min, Bool, true, false, List, [], ◌∷◌, Option, Some, None, Result, Ok, Err, length, take, drop, get_or, refl, sym, ap, arith, length-append, nat_le, cond}
use Rattle.std.proofs.lemmas.Bool.Decides.{nat_tests}
use Rattle.std.proofs.lemmas.List.{drop_more, drop_all}
use Rattle.std.specs.Prelude.{slice_get}
use Rattle.bq_base.specs.declared.fault.EvalFault.{EvalFault}
use Rattle.bq_base.specs.declared.fault.EvalFault.TheVariants.{TooLong}
use Rattle.bq_builtin_strings.specs.Search.{find}
use Rattle.bq_builtin_strings.specs.Parts as parts
use Rattle.bq_builtin_strings.specs.Parts.{around, cuts, interleave, joined_on, partition, replace_cuts}
use Rattle.bq_builtin_strings.proofs.Places.{found_whole}
use Rattle.bq_builtin_strings.proofs.PartCases.{cuts_by, replace_by}
use Rattle.bq_builtin_strings.specs.Length.{max_len, within}
use Rattle.bq_value.specs.Datum.{Datum}
use Rattle.bq_builtin_string_methods.specs.Argument.{most_in, text_in}
use Rattle.bq_builtin_machine.specs.Answer.{and_then}
use Rattle.bq_builtin_string_methods.specs.Longer.{fit_replaced, fits, join, replace, times, unless_too_long}

parts_len_by : (old text before after : List ℕ) (at : Option ℕ) → find old text ≡ at → around old text at ≡ Some (before, after) → length text ≡ length before + (length old + length after)
parts_len_by old text before after None f e = absurd (cc)
parts_len_by old text before after (Some at) f e =
    let pair : (take at text, drop (at + length old) text) ≡ (before, after) = cc in
    let front : take at text ≡ before = ap (λ (p : List ℕ × List ℕ). p.0) pair in
    let back : drop (at + length old) text ≡ after = ap (λ (p : List ℕ × List ℕ). p.1) pair in
    omega (arith, ap length (found_whole old text at f), length-append (take at text) (old ++ drop (at + length old) text), length-append old (drop (at + length old) text), ap length front, ap length back)

parts_len : (old text before after : List ℕ) → partition old text ≡ Some (before, after) → length text ≡ length before + (length old + length after)
unfolding partition
parts_len old text before after e = parts_len_by old text before after (find old text) refl e

-- the cuts fit, and each takes an old text out and puts a new one in
record Replaced (old new text made : List ℕ) (n : ℕ) : Type 0 where
  fits : n * length old ≤ length text
  len : length made + n * length old ≡ length text + n * length new

cut_by : (old new : List ℕ) (most : ℕ) (text : List ℕ) → ((t : List ℕ) → Replaced old new t (replace_cuts old new most t) (cuts old most t)) → (p : Option (List ℕ × List ℕ)) → partition old text ≡ p
    → Replaced old new text (replace_by (replace_cuts old new most) new text p) (cuts_by (cuts old most) p)
cut_by old new most text again None e = record { fits = omega arith; len = omega arith }
cut_by old new most text again (Some (before, after)) e =
    let whole = parts_len old text before after e in
    let rest = again after in
    let made : List ℕ = replace_cuts old new most after in
    let fits = rest.fits in
    let len = rest.len in
    record {
      fits = omega (arith, whole, fits);
      len = omega (arith, whole, len, length-append before (new ++ made), length-append new made);
    }

replaced_cuts : (old new : List ℕ) (most : ℕ) (text : List ℕ) → Replaced old new text (replace_cuts old new most text) (cuts old most text)
unfolding cuts replace_cuts
replaced_cuts old new zero text = record { fits = omega arith; len = omega arith }
replaced_cuts old new (suc most) text = cut_by old new most text (replaced_cuts old new most) (partition old text) refl

interleaved : (new : List ℕ) (most : ℕ) (text : List ℕ) (n : ℕ) → n ≡ min most (length text + 1) → length (interleave new most text) ≡ length text + n * length new
unfolding interleave
interleaved new zero text n e = let none : n ≡ 0 = omega (arith, e) in rw none (omega arith)
interleaved new (suc most) [] n e = let one : n ≡ 1 = omega (arith, e) in rw one (omega arith)
interleaved new (suc most) (b ∷ bs) n e =
    let k : ℕ = min most (length bs + 1) in
    let more : n ≡ k + 1 = omega (arith, e) in
    let again = interleaved new most bs k refl in
    rw more (omega (arith, again, length-append new (b ∷ interleave new most bs)))

replaced : (old new : List ℕ) (most : ℕ) (text : List ℕ) → Replaced old new text (parts.replace old new most text) (times old most text)
unfolding parts.replace times
replaced [] new most text =
    let n : ℕ = min most (length text + 1) in
    let len = interleaved new most text n refl in
    record { fits = omega arith; len = omega (arith, len) }
replaced (c ∷ cs) new most text = replaced_cuts (c ∷ cs) new most text

pub times_fit : (old : List ℕ) (most : ℕ) (text : List ℕ) → times old most text * length old ≤ length text
times_fit old most text = let it = replaced old [] most text in it.fits

made_len : (old new : List ℕ) (most : ℕ) (text : List ℕ) → length text - times old most text * length old + times old most text * length new ≡ length (parts.replace old new most text)
made_len old new most text = let it = replaced old new most text in let fits = it.fits in let len = it.len in omega (arith, fits, len)

-- the length alone says whether the text would be too long
pub known_by_length : (old new : List ℕ) (most : ℕ) (text : List ℕ) → unless_too_long (parts.replace old new most text) ≡ and_then (fit_replaced (length text) (times old most text) (length old) (length new)) (λ _. Ok (parts.replace old new most text))
known_by_length old new most text = ap (λ (n : ℕ). and_then (fits n) (λ _. Ok (parts.replace old new most text))) (sym (made_len old new most text))

-- what is replaced, from the arguments and whether the text would be too long
pub replaced_is : (text old new : List ℕ) (most : ℕ) (vs : List Datum) (fit : Result (Unit {0}) EvalFault) → text_in (slice_get vs 0) ≡ Ok old → text_in (slice_get vs 1) ≡ Ok new → most_in (length text) (slice_get vs 2) ≡ Ok most
    → fit_replaced (length text) (times old most text) (length old) (length new) ≡ fit → replace text vs ≡ and_then fit (λ _. Ok (parts.replace old new most text))
unfolding replace
replaced_is text old new most vs fit o n m f = rw (o, n, m) (known_by_length old new most text ∙ ap (λ (r : Result (Unit {0}) EvalFault). and_then r (λ _. Ok (parts.replace old new most text))) f)

-- ---- what is joined

joined_len_of : (sep part : List ℕ) (others : List (List ℕ)) → length (joined_on sep (part ∷ others)) ≡ length sep + (length part + length (joined_on sep others))
unfolding joined_on
joined_len_of sep part others = omega (arith, length-append sep (part ++ joined_on sep others), length-append part (joined_on sep others))

within_ok : (n m : ℕ) (so : Bool) → cond so (Ok n) (Err TooLong) ≡ Ok m → m ≡ n
within_ok n m true e = cc
within_ok n m false e = absurd (cc)

within_bad : (n : ℕ) (kind : EvalFault) (so : Bool) → nat_le n max_len ≡ so → cond so (Ok n) (Err TooLong) ≡ Err kind → (max_len < n) × (kind ≡ TooLong)
within_bad n kind true is e = absurd (cc)
within_bad n kind false is e = (grind (arith, nat_tests, is), cc)

fits_not : (n : ℕ) → max_len < n → fits n ≡ Err TooLong
fits_not n h = let so : nat_le n max_len ≡ false = grind (arith, nat_tests, h) in rw so refl

-- how long all is, from how long it was so far
pub joined_more : (sep : List ℕ) (all : List (List ℕ)) (part : List ℕ) (i n k m len : ℕ) → i < length all → part ≡ get_or all i part → k ≡ length part → len ≡ n + length (joined_on sep (drop i all)) → Ok m ≡ within (n + length sep + k) → len ≡ m + length (joined_on sep (drop (i + 1) all))
joined_more sep all part i n k m len inside is size e w =
    let here : length (joined_on sep (drop i all)) ≡ length (joined_on sep (part ∷ drop (i + 1) all)) = ap (λ (l : List (List ℕ)). length (joined_on sep l)) (drop_more all i part inside ∙ ap (λ (q : List ℕ). q ∷ drop (i + 1) all) (sym is)) in
    let more : m ≡ n + length sep + k = within_ok (n + length sep + k) m (nat_le (n + length sep + k) max_len) (sym w) in
    omega (arith, e, here, more, size, joined_len_of sep part (drop (i + 1) all))

pub joined_bad : (sep : List ℕ) (all : List (List ℕ)) (part : List ℕ) (i n k len : ℕ) (kind : EvalFault) → i < length all → part ≡ get_or all i part → k ≡ length part → len ≡ n + length (joined_on sep (drop i all)) → Err kind ≡ within (n + length sep + k) → Err kind ≡ fits len
joined_bad sep all part i n k len kind inside is size e w =
    let here : length (joined_on sep (drop i all)) ≡ length (joined_on sep (part ∷ drop (i + 1) all)) = ap (λ (l : List (List ℕ)). length (joined_on sep l)) (drop_more all i part inside ∙ ap (λ (q : List ℕ). q ∷ drop (i + 1) all) (sym is)) in
    let bad = within_bad (n + length sep + k) kind (nat_le (n + length sep + k) max_len) refl (sym w) in
    let over = bad.0 in
    let above : max_len < len = omega (arith, e, here, over, size, joined_len_of sep part (drop (i + 1) all)) in
    ap (λ (q : EvalFault). Err q) (bad.1) ∙ sym (fits_not len above)

none_left : (sep : List ℕ) (all : List (List ℕ)) (i n len : ℕ) → length all ≤ i → len ≡ n + length (joined_on sep (drop i all)) → n + 0 ≡ len
unfolding joined_on
none_left sep all i n len past e = let none : length (joined_on sep (drop i all)) ≡ 0 = ap (λ (l : List (List ℕ)). length (joined_on sep l)) (drop_all i all past) in omega (arith, e, none)

same_fit : (n : ℕ) (r : Result ℕ EvalFault) → r ≡ within n → and_then r (λ _. Ok (tt {0})) ≡ fits n
same_fit n r e = ap (λ (v : Result ℕ EvalFault). and_then v (λ _. Ok (tt {0}))) e ∙ elim (nat_le n max_len) as (λ so. and_then (cond {A = Result ℕ EvalFault} so (Ok n) (Err TooLong)) (λ _. Ok (tt {0})) ≡ cond {A = Result (Unit {0}) EvalFault} so (Ok (tt {0})) (Err TooLong)) [ true ↦ refl | false ↦ refl ]

pub joined_fits : (sep : List ℕ) (all : List (List ℕ)) (i n len : ℕ) (r : Result ℕ EvalFault) → length all ≤ i → len ≡ n + length (joined_on sep (drop i all)) → r ≡ within (n + 0) → and_then r (λ _. Ok (tt {0})) ≡ fits len
joined_fits sep all i n len r past e w = same_fit (n + 0) r w ∙ ap fits (none_left sep all i n len past e)

first_len : (sep part : List ℕ) (others : List (List ℕ)) → length (parts.join sep (part ∷ others)) ≡ length part + length (joined_on sep others)
unfolding parts.join
first_len sep part others = length-append part (joined_on sep others)

pub fits_first : (sep : List ℕ) (all others : List (List ℕ)) (part : List ℕ) (k : ℕ) → 0 < length all → part ≡ get_or all 0 part → k ≡ length part → others ≡ drop 1 all → fits (k + length (joined_on sep others)) ≡ fits (length (parts.join sep all))
fits_first sep [] others part k some is size e = absurd (omega (arith, some))
fits_first sep (first ∷ more) others part k some is size e =
    let len : k + length (joined_on sep others) ≡ length (parts.join sep (first ∷ more)) = omega (arith, size, ap length is, ap (λ (l : List (List ℕ)). length (joined_on sep l)) e, first_len sep first more) in
    ap fits len

pub fits_none : (sep : List ℕ) (all : List (List ℕ)) → length all ≡ 0 → Ok (tt {0}) ≡ fits (length (parts.join sep all))
unfolding parts.join
fits_none sep [] e = refl
fits_none sep (part ∷ more) e = absurd (omega (arith, e))

pub joined_is : (text : List ℕ) (strings : List (List ℕ)) (fit : Result (Unit {0}) EvalFault) → fits (length (parts.join text strings)) ≡ fit → join text strings ≡ and_then fit (λ _. Ok (parts.join text strings))
unfolding join
joined_is text strings fit f = ap (λ (r : Result (Unit {0}) EvalFault). and_then r (λ _. Ok (parts.join text strings))) f
