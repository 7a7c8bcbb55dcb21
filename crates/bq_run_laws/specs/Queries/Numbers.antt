-- Numbers of edges, as a query writes them (Bazel query reference, "deps", "rdeps").
use Rattle.std.specs.Prelude.{◌≡◌, ◌<◌, ◌+◌, ◌*◌, ◌^◌, ℕ, min, List, [], ◌∷◌, ◌++◌}
use Rattle.bq_query_check.specs.FormulaOf.{number}

-- the word is the number in decimal digits, with any zeros before it
pub data IsDecimal : List ℕ → ℕ → Type 0 where
  digit : {word : List ℕ} {d : ℕ} → d < 10 → word ≡ (48 + d) ∷ [] → IsDecimal word d
  more : {word before : List ℕ} {n m d : ℕ} → IsDecimal before n → d < 10 → word ≡ before ++ (48 + d) ∷ [] → m ≡ n * 10 + d → IsDecimal word m

-- decimal digits are read as their number, and as 2^32 where that is greater
abbrev pub NumbersAreDecimal : Type 0
NumbersAreDecimal = (word : List ℕ) (n : ℕ) → IsDecimal word n → number word ≡ min n (2 ^ 32)
