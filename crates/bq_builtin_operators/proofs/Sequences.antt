-- Sequences that are joined, repeated and sliced.
use Rattle.std.proofs.Common.{◌≡◌, ◌≢◌, ◌∙◌, ◌+◌, ◌-◌, ◌*◌, ◌<◌, ◌≤◌, ℕ, zero, suc, ℤ, pos, to_z, of_z, w64, FitsSigned, get_or, Bool, true, false, cond, List, [], ◌∷◌, ◌++◌, Option, Some, Ok, Err, length, refl, sym, ap, arith, length-append, append_assoc, zero-add}
use Rattle.std.specs.Prelude.{negsuc, neg_ℤ, nat_le, ◌==◌, ◌+ℤ◌, ◌≤ℤ◌, ◌<ℤ◌, unsigned_abs}
use Rattle.std.proofs.lemmas.Int.{ints, to_z-of_z}
use Rattle.std.proofs.lemmas.Option.{slice_get-get_or, slice_get_read}
use Rattle.std.proofs.lemmas.List.{append-nil}
use Rattle.std.proofs.Math.Dec.{eqb-suc-zero}
use Rattle.std.proofs.Math.Nat.{mul-suc, add-mul, one-mul}
use Rattle.bq_base.specs.declared.fault.EvalFault.TheVariants.{TooLong}
use Rattle.bq_value.specs.Range.{range_count, range_element}
use Rattle.bq_builtin_strings.specs.Length.{max_len, within, times_of}
use Rattle.bq_builtin_strings.specs.Slice.{slice_start, slice_stop, element_at, taken, taken_by}
use Rattle.bq_builtin_strings.proofs.Slices.{places_within}
use Rattle.bq_builtin_strings.proofs.SliceElements.{taken_next, first_element}
use Rattle.bq_builtin_machine.specs.Answer.{and_then}
use Rattle.bq_builtin_operators.specs.Sequence.{limited, joined, copies, repeated, AreWithin}

limited_when : {A : Type 0} (xs : List A) (n : ℕ) (b : Bool) → cond b (Ok xs) (Err TooLong) ≡ and_then (cond b (Ok n) (Err TooLong)) (λ _. Ok xs)
limited_when xs n true = refl
limited_when xs n false = refl

-- the length decides
pub limited_by : {A : Type 0} (xs : List A) (n : ℕ) → length xs ≡ n → limited xs ≡ and_then (within n) (λ _. Ok xs)
limited_by xs n e = ap (λ (k : ℕ). cond (nat_le k max_len) (Ok xs) (Err TooLong)) e ∙ limited_when xs n (nat_le n max_len)

pub joined_is : {A : Type 0} (xs ys : List A) → joined xs ys ≡ and_then (within (length xs + length ys)) (λ _. Ok (xs ++ ys))
unfolding joined
joined_is xs ys = limited_by (xs ++ ys) (length xs + length ys) (length-append xs ys)

pub copies_length : {A : Type 0} (xs : List A) (n : ℕ) → length (copies xs n) ≡ length xs * n
copies_length xs zero = omega arith
copies_length xs (suc n) = length-append xs (copies xs n) ∙ (ap (λ (k : ℕ). length xs + k) (copies_length xs n) ∙ omega (arith, mul-suc (length xs) n))

pub repeated_is : {A : Type 0} (xs : List A) (times : ℤ) → repeated xs times ≡ and_then (within (length xs * times_of times)) (λ _. Ok (copies xs (times_of times)))
unfolding repeated
repeated_is xs times = limited_by (copies xs (times_of times)) (length xs * times_of times) (copies_length xs (times_of times))

nothing_copied : {A : Type 0} (n : ℕ) → copies {A = A} [] n ≡ []
nothing_copied zero = refl
nothing_copied (suc n) = nothing_copied n

-- m times and then n times
pub copies_add : {A : Type 0} (xs : List A) (m n : ℕ) → copies xs (m + n) ≡ copies xs m ++ copies xs n
copies_add xs zero n = ap (copies xs) (zero-add n)
copies_add xs (suc m) n =
    let e : suc m + n ≡ suc (m + n) = omega arith in
    ap (copies xs) e ∙ (ap (λ ys. xs ++ ys) (copies_add xs m n) ∙ sym (append_assoc xs (copies xs m) (copies xs n)))

-- nothing takes no turn
pub turns_copy : {A : Type 0} (xs : List A) (n : ℕ) → copies xs (cond (length xs == 0) 0 n) ≡ copies xs n
turns_copy [] n = sym (nothing_copied n)
turns_copy (x ∷ xs) n = ap (λ (b : Bool). copies (x ∷ xs) (cond b 0 n)) (eqb-suc-zero (length xs))

-- one turn more
pub more_copies : {A : Type 0} (done xs : List A) (n i : ℕ) → i < n → (done ++ xs) ++ copies xs (n - (i + 1)) ≡ done ++ copies xs (n - i)
more_copies done xs n i l =
    let e : n - i ≡ suc (n - (i + 1)) = omega (arith, l) in
    append_assoc done xs (copies xs (n - (i + 1))) ∙ ap (λ (k : ℕ). done ++ copies xs k) (sym e)

-- what a slice takes is there
pub slice_within : {A : Type 0} (xs : List A) (start stop : Option ℤ) (step a b c : ℤ) → (step ≢ pos 0)
    → a ≡ slice_start (pos (length xs)) step start → b ≡ slice_stop (pos (length xs)) step stop → c ≡ step → AreWithin xs a b c
slice_within xs start stop step a b c apart e f g = rw (e, f, g) (λ k l. places_within (length xs) start stop step k apart l)

next_place : (start step : ℤ) (i : ℕ) → range_element start step (i + 1) ≡ range_element start step i +ℤ step
next_place start (pos c) i =
    let e : (i + 1) * c ≡ i * c + c = add-mul i 1 c ∙ ap (λ (k : ℕ). i * c + k) (one-mul c) in
    let is : start +ℤ pos ((i + 1) * c) ≡ (start +ℤ pos (i * c)) +ℤ pos c = omega (arith, ints, e) in
    is
next_place start (negsuc c) i =
    let e : (i + 1) * suc c ≡ i * suc c + suc c = add-mul i 1 (suc c) ∙ ap (λ (k : ℕ). i * suc c + k) (one-mul (suc c)) in
    let is : start +ℤ neg_ℤ (pos ((i + 1) * suc c)) ≡ (start +ℤ neg_ℤ (pos (i * suc c))) +ℤ negsuc c = omega (arith, ints, e) in
    is

-- one place more
pub more_taken : {A : Type 0} (done xs : List A) (count i : ℕ) (start step : ℤ) (x : A) → i < count → element_at xs (range_element start step i) ≡ Some x
    → (done ++ x ∷ []) ++ taken xs (count - (i + 1)) (range_element start step (i + 1)) step ≡ done ++ taken xs (count - i) (range_element start step i) step
more_taken done xs count i start step x l e =
    let n : count - i ≡ suc (count - (i + 1)) = omega (arith, l) in
    let at : ℤ = range_element start step i in
    ap (λ (z : ℤ). (done ++ x ∷ []) ++ taken xs (count - (i + 1)) z step) (next_place start step i)
    ∙ (append_assoc done (x ∷ []) (taken xs (count - (i + 1)) (at +ℤ step) step)
    ∙ (ap (λ ys. done ++ ys) (sym (taken_next xs (count - (i + 1)) at step x e)) ∙ ap (λ (k : ℕ). done ++ taken xs k at step) (sym n)))

-- nothing is taken yet
pub none_taken : {A : Type 0} (xs : List A) (start stop step : ℤ) → [] ++ taken xs (range_count start stop step - 0) (range_element start step 0) step ≡ taken_by xs start stop step
unfolding taken_by
none_taken xs start stop step =
    ap (λ (z : ℤ). taken xs (range_count start stop step - 0) z step) (first_element start step) ∙ ap (λ (n : ℕ). taken xs n start step) (omega arith)

-- before the first turn, after one more, and after the last
pub turns_begin : {A : Type 0} (done xs : List A) (turns n : ℕ) → turns ≡ cond (length xs == 0) 0 n → done ++ copies xs (turns - 0) ≡ done ++ copies xs n
turns_begin done xs turns n e = let same : turns - 0 ≡ turns = omega arith in ap (λ (k : ℕ). done ++ copies xs k) (same ∙ e) ∙ ap (λ ys. done ++ ys) (turns_copy xs n)

pub turns_go_on : {A : Type 0} (done xs all new : List A) (turns i : ℕ) → i < turns → new ≡ done ++ xs → done ++ copies xs (turns - i) ≡ all → new ++ copies xs (turns - (i + 1)) ≡ all
turns_go_on done xs all new turns i l e h = ap (λ ys. ys ++ copies xs (turns - (i + 1))) e ∙ (more_copies done xs turns i l ∙ h)

pub turns_end : {A : Type 0} (done xs all : List A) (turns i : ℕ) → turns ≤ i → done ++ copies xs (turns - i) ≡ all → done ≡ all
turns_end done xs all turns i l h = let none : turns - i ≡ 0 = omega (arith, l) in sym (append-nil done) ∙ (ap (λ (k : ℕ). done ++ copies xs k) (sym none) ∙ h)

-- what was read is the element of its place
pub byte_found : (xs : List ℕ) (at z : ℤ) → z ≡ at → FitsSigned w64 z → (pos 0 ≤ℤ at) × (at <ℤ pos (length xs)) → element_at xs at ≡ Some (get_or xs (unsigned_abs (to_z w64 (of_z w64 z))) 0)
byte_found xs (pos k) z e f h =
    slice_get-get_or xs k 0 (omega (arith, ints, h.1)) ∙ ap (λ (y : ℤ). Some (get_or xs (unsigned_abs y) 0)) (sym (to_z-of_z w64 z f ∙ e))
byte_found xs (negsuc k) z e f h = absurd (omega (arith, ints, h.0))

pub value_found : {A : Type 0} (xs : List A) (at z : ℤ) (x : A) → z ≡ at → FitsSigned w64 z → (pos 0 ≤ℤ at) × (at <ℤ pos (length xs)) → x ≡ get_or xs (unsigned_abs (to_z w64 (of_z w64 z))) x
    → element_at xs at ≡ Some x
value_found xs (pos k) z x e f h is =
    slice_get_read xs (length xs) k x refl (omega (arith, ints, h.1)) (is ∙ ap (λ (y : ℤ). get_or xs (unsigned_abs y) x) (to_z-of_z w64 z f ∙ e))
value_found xs (negsuc k) z x e f h is = absurd (omega (arith, ints, h.0))

-- the same of places
pub places_go_on : {A : Type 0} (done xs all new : List A) (count i : ℕ) (start step : ℤ) (x : A) → i < count → element_at xs (range_element start step i) ≡ Some x → new ≡ done ++ x ∷ []
    → done ++ taken xs (count - i) (range_element start step i) step ≡ all
    → new ++ taken xs (count - (i + 1)) (range_element start step (i + 1)) step ≡ all
places_go_on done xs all new count i start step x l found e h =
    ap (λ ys. ys ++ taken xs (count - (i + 1)) (range_element start step (i + 1)) step) e
    ∙ (more_taken done xs count i start step x l found ∙ h)

pub places_end : {A : Type 0} (done xs all : List A) (count i : ℕ) (start step : ℤ) → count ≤ i → done ++ taken xs (count - i) (range_element start step i) step ≡ all → done ≡ all
places_end done xs all count i start step l h =
    let none : count - i ≡ 0 = omega (arith, l) in
    sym (append-nil done) ∙ (ap (λ (k : ℕ). done ++ taken xs k (range_element start step i) step) (sym none) ∙ h)
