-- The words are the longest runs of bytes that are not space.
use Rattle.std.proofs.Common.{◌≡◌, ◌<◌, ◌≤◌, ◌++◌, ℕ, zero, suc, Bool, true, false, not, List, [], ◌∷◌, length, take, drop, get_or, refl, sym, ap, ◌∙◌, subst, inl, inr, arith, length-take, length-drop}
use native.Mathlib.Numerals.{one-add}
use Rattle.std.proofs.lemmas.Bool.{cases_Bool}
use Rattle.std.proofs.lemmas.List.{get_or-take, take-append-drop, append-nil}
use Rattle.std.proofs.lemmas.List.Sums.{prefix_len_passes, prefix_len-le-length}
use Rattle.std.specs.List.{prefix_len, All}
use Rattle.bq_builtin_strings.specs.Trim.{lstrip, spaces}
use Rattle.bq_builtin_strings.specs.Class.{has, is_space}
use Rattle.bq_builtin_strings.specs.declared.class.ByteClass.TheVariants.{NonSpace}
use Rattle.bq_builtin_strings.specs.Word.{AreWords, none, more, IsSpace, IsWord, IsApart, first_word, words_from}

passes : (p : ℕ → Bool) (text : List ℕ) → All (λ b. p b ≡ true) (take (prefix_len p text) text)
passes p text k d l =
    let len : length (take (prefix_len p text) text) ≡ prefix_len p text = length-take (prefix_len p text) text ∙ omega (arith, prefix_len-le-length p text) in
    let within : k < prefix_len p text = omega (arith, len, l) in
    ap p (get_or-take (prefix_len p text) text k d within) ∙ prefix_len_passes p text k d within

-- what is after the longest run begins with no byte that passes
abbrev Stops : (ℕ → Bool) → List ℕ → Type 0
Stops p [] = Unit {0}
Stops p (b ∷ bs) = p b ≡ false

after_run : (p : ℕ → Bool) (text : List ℕ) → Stops p (drop (prefix_len p text) text)
after_run p [] = tt
after_run p (b ∷ bs) = elim (cases_Bool (p b)) [ inl y ↦ rw (y, one-add) (after_run p bs) | inr n ↦ rw n n ]

run_then_rest : (p : ℕ → Bool) (text : List ℕ) → text ≡ take (prefix_len p text) text ++ drop (prefix_len p text) text
run_then_rest p text = sym (take-append-drop (prefix_len p text) text)

not_true : (b : Bool) → not b ≡ true → b ≡ false
not_true true e = absurd (cc)
not_true false e = refl

not_false : (b : Bool) → not b ≡ false → b ≡ true
not_false true e = refl
not_false false e = absurd (cc)

-- a run of bytes that are no space is a word, if it has a byte
is_word : (text : List ℕ) → 0 < length text → All (λ b. has NonSpace b ≡ true) text → IsWord text
is_word [] l h = absurd (omega (arith, l))
is_word (b ∷ bs) l h = λ k d m. not_true (is_space (get_or (b ∷ bs) k d)) (h k d m)

is_apart : (text : List ℕ) → Stops (has NonSpace) text → IsApart text
is_apart [] h = tt
is_apart (b ∷ bs) h = not_false (is_space b) h

a_byte : (b : ℕ) (bs : List ℕ) → is_space b ≡ false → 0 < prefix_len (has NonSpace) (b ∷ bs)
a_byte b bs e = rw e (omega arith)

step : (gap : List ℕ) (n : ℕ) (text rest : List ℕ) → text ≡ gap ++ rest → IsSpace gap → Stops (λ b. is_space b) rest → ((t : List ℕ) → length t ≤ n → AreWords t (words_from n (lstrip spaces t))) → length rest ≤ suc n → AreWords text (words_from (suc n) rest)
unfolding words_from first_word
step gap n text [] e g s again l = none text (subst IsSpace (sym (e ∙ append-nil gap)) g)
step gap n text (b ∷ bs) e g s again l =
    let k : ℕ = prefix_len (has NonSpace) (b ∷ bs) in
    let some : 0 < k = a_byte b bs s in
    let within : k ≤ length (b ∷ bs) = prefix_len-le-length (has NonSpace) (b ∷ bs) in
    let word : IsWord (take k (b ∷ bs)) = is_word (take k (b ∷ bs)) (omega (arith, length-take k (b ∷ bs), some, within)) (passes (has NonSpace) (b ∷ bs)) in
    more text gap (take k (b ∷ bs)) (drop k (b ∷ bs)) (words_from n (lstrip spaces (drop k (b ∷ bs)))) (e ∙ ap (λ (t : List ℕ). gap ++ t) (run_then_rest (has NonSpace) (b ∷ bs))) g word (is_apart (drop k (b ∷ bs)) (after_run (has NonSpace) (b ∷ bs)))
    (again (drop k (b ∷ bs)) (omega (arith, length-drop k (b ∷ bs), some, l)))

pub are_words : (n : ℕ) (text : List ℕ) → length text ≤ n → AreWords text (words_from n (lstrip spaces text))
unfolding words_from lstrip
are_words zero [] l = none [] (λ k d m. absurd (omega (arith, m)))
are_words zero (b ∷ bs) l = absurd (omega (arith, l))
are_words (suc n) text l =
    let k : ℕ = prefix_len (λ b. is_space b) text in
    step (take k text) n text (drop k text) (run_then_rest (λ b. is_space b) text) (passes (λ b. is_space b) text) (after_run (λ b. is_space b) text) (are_words n) (omega (arith, length-drop k text, l))
