-- One word after another.
use Rattle.std.proofs.Common.{◌≡◌, ◌≢◌, ◌-◌, ◌<◌, ◌++◌, ℕ, zero, suc, List, [], ◌∷◌, Some, None, length, take, drop, refl, sym, ap, ◌∙◌, arith, append_assoc, reverse}
use Rattle.std.proofs.lemmas.List.{reverse-append}
use Rattle.std.specs.List.{prefix_len, suffix_len}
use Rattle.bq_builtin_strings.specs.Trim.{lstrip, rstrip, spaces}
use Rattle.bq_builtin_strings.specs.Class.{has}
use Rattle.bq_builtin_strings.specs.declared.class.ByteClass.TheVariants.{NonSpace}
use Rattle.bq_builtin_strings.specs.Word.{first_word, last_word, word_within, last_word_within, last_part, words_from, rwords_from}
use Rattle.bq_builtin_strings.proofs.WordCases.{rwords_by, words_by}

-- ---- one cut

pub word_none : (n : ℕ) (text : List ℕ) → length text ≡ 0 → word_within n text ≡ None
unfolding word_within first_word
word_none zero text e = refl
word_none (suc n) [] e = refl
word_none (suc n) (b ∷ bs) e = absurd (omega (arith, e))

pub last_word_none : (n : ℕ) (text : List ℕ) → length text ≡ 0 → last_word_within n text ≡ None
unfolding last_word_within last_word
last_word_none zero text e = refl
last_word_none (suc n) [] e = refl
last_word_none (suc n) (b ∷ bs) e = absurd (omega (arith, e))

pub word_some : (n : ℕ) (text front back : List ℕ) (k : ℕ) → n ≢ 0 → 0 < length text → k ≡ prefix_len (has NonSpace) text → front ≡ take k text → back ≡ drop k text → word_within n text ≡ Some (front, back)
unfolding word_within first_word
word_some zero text front back k some long e f g = absurd (some refl)
word_some (suc n) [] front back k some long e f g = absurd (omega (arith, long))
word_some (suc n) (b ∷ bs) front back k some long e f g = rw (f, g, e) refl

pub last_word_some : (n : ℕ) (text front back : List ℕ) (k : ℕ) → n ≢ 0 → 0 < length text → k ≡ length text - suffix_len (has NonSpace) text → front ≡ take k text → back ≡ drop k text
    → last_word_within n text ≡ Some (front, back)
unfolding last_word_within last_word
last_word_some zero text front back k some long e f g = absurd (some refl)
last_word_some (suc n) [] front back k some long e f g = absurd (omega (arith, long))
last_word_some (suc n) (b ∷ bs) front back k some long e f g = rw (f, g, e) refl

-- ---- what is left gives the rest

words_stop : (n : ℕ) (text : List ℕ) → word_within n text ≡ None → words_from n text ≡ last_part text
unfolding words_from word_within
words_stop zero text e = refl
words_stop (suc n) text e = ap (words_by (words_from n) text) e

words_go : (n : ℕ) (text word after : List ℕ) → word_within n text ≡ Some (word, after) → words_from n text ≡ word ∷ words_from (n - 1) (lstrip spaces after)
unfolding words_from word_within
words_go zero text word after e = absurd (cc)
words_go (suc n) text word after e = let one : suc n - 1 ≡ n = omega arith in rw one (ap (words_by (words_from n) text) e)

rwords_stop : (n : ℕ) (text : List ℕ) → last_word_within n text ≡ None → rwords_from n text ≡ last_part text
unfolding rwords_from last_word_within
rwords_stop zero text e = refl
rwords_stop (suc n) text e = ap (rwords_by (rwords_from n) text) e

rwords_go : (n : ℕ) (text before word : List ℕ) → last_word_within n text ≡ Some (before, word) → rwords_from n text ≡ rwords_from (n - 1) (rstrip spaces before) ++ word ∷ []
unfolding rwords_from last_word_within
rwords_go zero text before word e = absurd (cc)
rwords_go (suc n) text before word e = let one : suc n - 1 ≡ n = omega arith in rw one (ap (rwords_by (rwords_from n) text) e)

-- ---- the parts so far

pub words_more : (n : ℕ) (text word after rest part : List ℕ) (parts more total : List (List ℕ)) → word_within n text ≡ Some (word, after) → rest ≡ lstrip spaces after → part ≡ word → more ≡ parts ++ part ∷ [] → parts ++ words_from n text ≡ total
    → more ++ words_from (n - 1) rest ≡ total
words_more n text word after rest part parts more total e r p m h =
    rw (m, r, p) (append_assoc parts (word ∷ []) (words_from (n - 1) (lstrip spaces after)) ∙ (ap (λ (v : List (List ℕ)). parts ++ v) (sym (words_go n text word after e)) ∙ h))

pub words_end : (n : ℕ) (text : List ℕ) (parts more total : List (List ℕ)) → word_within n text ≡ None → more ≡ parts ++ last_part text → parts ++ words_from n text ≡ total → more ≡ total
words_end n text parts more total e m h = m ∙ (ap (λ (v : List (List ℕ)). parts ++ v) (sym (words_stop n text e)) ∙ h)

pub rwords_more : (n : ℕ) (text before word rest part : List ℕ) (parts more total : List (List ℕ)) → last_word_within n text ≡ Some (before, word) → rest ≡ rstrip spaces before → part ≡ word → more ≡ parts ++ part ∷ []
    → rwords_from n text ++ reverse parts ≡ total → rwords_from (n - 1) rest ++ reverse more ≡ total
rwords_more n text before word rest part parts more total e r p m h =
    let left : List (List ℕ) = rwords_from (n - 1) (rstrip spaces before) in
    rw (m, r, p) (ap (λ (v : List (List ℕ)). left ++ v) (reverse-append parts (word ∷ []))
    ∙ (sym (append_assoc left (word ∷ []) (reverse parts)) ∙ (ap (λ (v : List (List ℕ)). v ++ reverse parts) (sym (rwords_go n text before word e)) ∙ h)))

reverse_last : (text : List ℕ) → reverse (last_part text) ≡ last_part text
reverse_last [] = refl
reverse_last (b ∷ bs) = refl

pub rwords_end : (n : ℕ) (text : List ℕ) (parts more done total : List (List ℕ)) → last_word_within n text ≡ None → more ≡ parts ++ last_part text → done ≡ reverse more → rwords_from n text ++ reverse parts ≡ total → done ≡ total
rwords_end n text parts more done total e m d h =
    d ∙ (ap reverse m ∙ (reverse-append parts (last_part text)
    ∙ (ap (λ (v : List (List ℕ)). v ++ reverse parts) (reverse_last text ∙ sym (rwords_stop n text e)) ∙ h)))
