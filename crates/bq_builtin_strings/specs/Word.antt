-- The words of a text: what is between runs of space (Starlark, "string·split" and "string·rsplit" without a separator).
use Rattle.std.specs.Prelude.{◌≡◌, ℕ, zero, suc, ◌-◌, true, false, List, [], ◌∷◌, ◌++◌, Option, Some, None, length, take, drop}
use Rattle.std.specs.List.{prefix_len, suffix_len, All}
use Rattle.bq_builtin_strings.specs.Trim.{lstrip, rstrip, spaces}
use Rattle.bq_builtin_strings.specs.Class.{has, is_space}
use Rattle.bq_builtin_strings.specs.declared.class.ByteClass.TheVariants.{NonSpace}

-- ---- in words

-- each byte is space; there may be none
abbrev pub IsSpace : List ℕ → Type 0
IsSpace text = All (λ b. is_space b ≡ true) text

-- a byte at least, and no space
abbrev pub IsWord : List ℕ → Type 0
IsWord [] = ⊥
IsWord (b ∷ bs) = All (λ c. is_space c ≡ false) (b ∷ bs)

-- no word goes on here
abbrev pub IsApart : List ℕ → Type 0
IsApart [] = Unit {0}
IsApart (b ∷ bs) = is_space b ≡ true

-- the words of a text, in their order: space, a word that goes on as far as it can, then the words of the rest
pub data AreWords : List ℕ → List (List ℕ) → Type 0 where
  none : (text : List ℕ) → IsSpace text → AreWords text []
  more : (text gap word rest : List ℕ) (words : List (List ℕ)) → text ≡ gap ++ (word ++ rest) → IsSpace gap → IsWord word → IsApart rest → AreWords rest words → AreWords text (word ∷ words)

-- ---- as functions

-- the word that a text begins with, and what is after it
unfoldable pub first_word : List ℕ → Option (List ℕ × List ℕ)
first_word [] = None
first_word (b ∷ bs) = Some (take (prefix_len (has NonSpace) (b ∷ bs)) (b ∷ bs), drop (prefix_len (has NonSpace) (b ∷ bs)) (b ∷ bs))

-- what is before the word that a text ends in, and the word
unfoldable pub last_word : List ℕ → Option (List ℕ × List ℕ)
last_word [] = None
last_word (b ∷ bs) =
    Some (take (length (b ∷ bs) - suffix_len (has NonSpace) (b ∷ bs)) (b ∷ bs), drop (length (b ∷ bs) - suffix_len (has NonSpace) (b ∷ bs)) (b ∷ bs))

-- the same where some cuts are left
unfoldable pub word_within : ℕ → List ℕ → Option (List ℕ × List ℕ)
word_within zero text = None
word_within (suc left) text = first_word text

-- what is before the word that a text ends in, and the word, where some cuts are left; None where none is
unfoldable pub last_word_within : ℕ → List ℕ → Option (List ℕ × List ℕ)
last_word_within zero text = None
last_word_within (suc left) text = last_word text

-- what is left is a part, if it has a byte
abbrev pub last_part : List ℕ → List (List ℕ)
last_part [] = []
last_part (b ∷ bs) = (b ∷ bs) ∷ []

-- the words of a text that begins with no space, cut from the left at most this many times
unfoldable pub words_from : ℕ → List ℕ → List (List ℕ)
words_from zero text = last_part text
words_from (suc most) text = elim (first_word text) [ None ↦ last_part text | Some p ↦ p.0 ∷ words_from most (lstrip spaces p.1) ]

-- the words of a text, cut at most so often from the left
abbrev pub words : ℕ → List ℕ → List (List ℕ)
words most text = words_from most (lstrip spaces text)

-- the words of a text that ends in no space, cut from the right at most this many times
unfoldable pub rwords_from : ℕ → List ℕ → List (List ℕ)
rwords_from zero text = last_part text
rwords_from (suc most) text = elim (last_word text) [ None ↦ last_part text | Some p ↦ rwords_from most (rstrip spaces p.0) ++ p.1 ∷ [] ]

-- the words of a text, cut at most so often from the right
abbrev pub rwords : ℕ → List ℕ → List (List ℕ)
rwords most text = rwords_from most (rstrip spaces text)
