-- Parts of definitions, as words that proofs name.
use Rattle.std.specs.Prelude.{List, [], ◌∷◌, ℕ, None, Option, Some, ◌++◌}
use Rattle.bq_builtin_strings.specs.Trim.{lstrip, rstrip, spaces}
use Rattle.bq_builtin_strings.specs.Word.{last_part}

-- a text of one byte
abbrev pub alone : ℕ → List ℕ
alone b = b ∷ []

-- the byte begins the first of these lines
abbrev pub onto : ℕ → List (List ℕ) → List (List ℕ)
onto b o = elim o [ [] ↦ (b ∷ []) ∷ [] | line ∷ others ↦ (b ∷ line) ∷ others ]

-- the words of a text without white space before it, by its first cut at white space
abbrev pub words_by : (List ℕ → List (List ℕ)) → List ℕ → Option (List ℕ × List ℕ) → List (List ℕ)
words_by later text o = elim o [ None ↦ last_part text | Some p ↦ p.0 ∷ later (lstrip spaces p.1) ]

-- the words of a text without white space behind it, by its last cut at white space
abbrev pub rwords_by : (List ℕ → List (List ℕ)) → List ℕ → Option (List ℕ × List ℕ) → List (List ℕ)
rwords_by earlier text o = elim o [ None ↦ last_part text | Some p ↦ earlier (rstrip spaces p.0) ++ p.1 ∷ [] ]
