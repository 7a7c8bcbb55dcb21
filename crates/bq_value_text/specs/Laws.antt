-- The definitions of the laws of texts.
use Rattle.std.specs.Prelude.{◌≡◌, ℕ, zero, suc, ◌^◌, ◌<◌, ℤ, pos, true, false, cond, List, [], ◌∷◌, ◌++◌, Option, Some, None, codes}
use Rattle.std.specs.Fmt.{signed_decimal}
use Rattle.std.specs.Ordering.{int_eq}
use Rattle.std.specs.Int.Signed.{mag}
use Rattle.bq_source.specs.StringLiteral.{quoted}
use Rattle.bq_predeclared.specs.RuleFunctions.{rule_function_name}
use Rattle.bq_predeclared.specs.AttributeType.{type_name}
use Rattle.bq_value.specs.Datum.{Datum, none, boolean, int, string, tuple, range, cell, function, built_in, built_in_name, rule_function, attribute, Data, end, datum, list_of}
use Rattle.bq_value.specs.Contents.{Contents, items, pairs, rule}
use Rattle.bq_value.specs.Cells.{StoreView, content_at}

-- keys (`None`, bools, integers, strings and tuples of these), the integers of which have 64 bits
abbrev mutual
  pub IsKeyInRange : Datum → Type 0
  IsKeyInRange none = Unit {0}
  IsKeyInRange (boolean b) = Unit {0}
  IsKeyInRange (int i) = mag i < 2 ^ 63
  IsKeyInRange (string bytes) = Unit {0}
  IsKeyInRange (tuple vs) = AreKeysInRange vs
  IsKeyInRange _ = ⊥

  pub AreKeysInRange : Data → Type 0
  AreKeysInRange end = Unit {0}
  AreKeysInRange (datum v vs) = IsKeyInRange v × AreKeysInRange vs

-- each of these texts behind a comma and a space
abbrev pub joined_on : List (List ℕ) → List ℕ
joined_on [] = []
joined_on (t ∷ ts) = codes ", " ++ (t ++ joined_on ts)

-- texts in a row, with a comma and a space between two of them
abbrev pub joined : List (List ℕ) → List ℕ
joined [] = []
joined (t ∷ ts) = t ++ joined_on ts

-- a tuple of one ends with a comma
abbrev pub tuple_close : List (List ℕ) → List ℕ
tuple_close (t ∷ []) = codes ",)"
tuple_close _ = codes ")"

-- a step of 1 is left out
abbrev pub step_text : ℤ → List ℕ
step_text step = cond (int_eq step (pos 1)) [] (codes ", " ++ signed_decimal step)

-- whether a value has a text
abbrev pub HasTexts : Type 1
HasTexts = Datum → List ℕ → Type 0

-- there are as many texts as values, and each value has the text at its place
abbrev pub AllHaveText : HasTexts → List Datum → List (List ℕ) → Type 0
AllHaveText has [] [] = Unit {0}
AllHaveText has (x ∷ xs) (t ∷ ts) = has x t × AllHaveText has xs ts
AllHaveText has _ _ = ⊥

-- `KEY: VALUE`
abbrev pub PairHasText : HasTexts → Datum × Datum → List ℕ → Type 0
PairHasText has p t = (key : List ℕ) × ((value : List ℕ) × (has p.0 key × (has p.1 value × (t ≡ key ++ (codes ": " ++ value)))))

-- there are as many texts as pairs, and each pair has the text at its place, as `KEY: VALUE`
abbrev pub PairsHaveText : HasTexts → List (Datum × Datum) → List (List ℕ) → Type 0
PairsHaveText has [] [] = Unit {0}
PairsHaveText has (p ∷ ps) (t ∷ ts) = PairHasText has p t × PairsHaveText has ps ts
PairsHaveText has _ _ = ⊥

-- a cell that the store doesn't know, which no program has, has an empty text
abbrev pub ContentHasText : HasTexts → Option Contents → List ℕ → Type 0
ContentHasText has None t = t ≡ []
ContentHasText has (Some (items xs)) t = (ts : List (List ℕ)) × (AllHaveText has xs ts × (t ≡ codes "[" ++ (joined ts ++ codes "]")))
ContentHasText has (Some (pairs ps)) t = (ts : List (List ℕ)) × (PairsHaveText has ps ts × (t ≡ codes "{" ++ (joined ts ++ codes "}")))
ContentHasText has (Some (rule c)) t = t ≡ codes "<rule>"

-- the forms of texts, where those of the values within are known
abbrev pub IsTextOf : HasTexts → StoreView → Datum → List ℕ → Type 0
IsTextOf has s none t = t ≡ codes "None"
IsTextOf has s (boolean true) t = t ≡ codes "True"
IsTextOf has s (boolean false) t = t ≡ codes "False"
IsTextOf has s (int n) t = t ≡ signed_decimal n
IsTextOf has s (string bytes) t = t ≡ quoted bytes
IsTextOf has s (tuple xs) t = (ts : List (List ℕ)) × (AllHaveText has (list_of xs) ts × (t ≡ codes "(" ++ (joined ts ++ tuple_close ts)))
IsTextOf has s (range start stop step) t = t ≡ codes "range(" ++ (signed_decimal start ++ (codes ", " ++ (signed_decimal stop ++ (step_text step ++ codes ")"))))
IsTextOf has s (cell home number) t = ContentHasText has (content_at s home number) t
IsTextOf has s (function home place name defaults) t = t ≡ codes "<function " ++ (name ++ codes ">")
IsTextOf has s (built_in f) t = t ≡ codes "<built-in function " ++ (built_in_name f ++ codes ">")
IsTextOf has s (rule_function f) t = t ≡ codes "<built-in function " ++ (rule_function_name f ++ codes ">")
IsTextOf has s (attribute a) t = t ≡ codes "<attr." ++ (type_name a.kind ++ codes ">")

-- the text of a value of at most this many levels
abbrev pub HasText : ℕ → StoreView → Datum → List ℕ → Type 0
HasText zero s v t = ⊥
HasText (suc l) s v t = IsTextOf (HasText l s) s v t
