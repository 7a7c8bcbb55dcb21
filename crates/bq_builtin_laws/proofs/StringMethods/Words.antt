-- The parts of a text that is split at space.
use Rattle.std.proofs.Common.{◌≡◌, refl, ℕ, zero, suc, ◌+◌, inl, inr, false, List, [], ◌∷◌, take, drop, arith}
use Rattle.std.specs.List.{AllByRecursion, prefix_len}
use Rattle.bq_base.proofs.Choices.{by_bool}
use Rattle.bq_builtin_strings.specs.Trim.{is_among, spaces, lstrip}
use Rattle.bq_builtin_strings.specs.Class.{is_space, has}
use Rattle.bq_builtin_strings.specs.declared.class.ByteClass.TheVariants.{NonSpace}
use Rattle.bq_builtin_strings.specs.Word.{first_word, last_part, words_from}
use Rattle.bq_builtin_string_methods.specs.Cuts.{words_of}
use Rattle.bq_builtin_string_methods.specs.declared.cuts.Side.TheVariants.{Left}
use Rattle.bq_builtin_laws.specs.StringMethods.Parts.{BeginsWithoutSpace}

-- one byte more
drop_more : (n b : ℕ) (bs : List ℕ) → drop (1 + n) (b ∷ bs) ≡ drop n bs
drop_more n b bs = let e : 1 + n ≡ suc n = omega arith in rw e refl

take_more : (n b : ℕ) (bs : List ℕ) → take (1 + n) (b ∷ bs) ≡ b ∷ take n bs
take_more n b bs = let e : 1 + n ≡ suc n = omega arith in rw e refl

-- nothing, or a text that begins without space
abbrev IsTrimmed : List ℕ → Type 0
IsTrimmed [] = Unit {0}
IsTrimmed (b ∷ bs) = is_space b ≡ false

trimmed : (text : List ℕ) → IsTrimmed (lstrip spaces text)
unfolding lstrip
trimmed [] = tt
trimmed (b ∷ bs) = elim (by_bool (is_among spaces b)) [
  | inl t ↦ rw (t, drop_more (prefix_len (is_among spaces) bs) b bs) (trimmed bs)
  | inr t ↦ rw t t
]

last_begins : (text : List ℕ) → IsTrimmed text → AllByRecursion BeginsWithoutSpace (last_part text)
last_begins [] h = tt
last_begins (b ∷ bs) h = (h, tt)

-- a word that a trimmed text begins with
first_begins : (b : ℕ) (bs : List ℕ) → is_space b ≡ false → BeginsWithoutSpace (take (prefix_len (has NonSpace) (b ∷ bs)) (b ∷ bs))
first_begins b bs h = rw (h, take_more (prefix_len (has NonSpace) bs) b bs) h

from_begins : (most : ℕ) (text : List ℕ) → IsTrimmed text → AllByRecursion BeginsWithoutSpace (words_from most text)
unfolding words_from first_word
from_begins zero text h = last_begins text h
from_begins (suc most) [] h = tt
from_begins (suc most) (b ∷ bs) h =
    (first_begins b bs h, from_begins most (lstrip spaces (drop (prefix_len (has NonSpace) (b ∷ bs)) (b ∷ bs))) (trimmed (drop (prefix_len (has NonSpace) (b ∷ bs)) (b ∷ bs))))

pub parts_begin : (most : ℕ) (text : List ℕ) → AllByRecursion BeginsWithoutSpace (words_of Left most text)
parts_begin most text = from_begins most (lstrip spaces text) (trimmed text)
