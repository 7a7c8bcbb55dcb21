-- Parts of definitions, as words that proofs name.
use Rattle.std.specs.Prelude.{Bool, List, None, Option, Some, [], if◌then◌else◌, suc, ℕ, ◌+◌, ◌++◌, ◌∷◌}

-- a text cut from the left, by its first cut
abbrev pub split_by : (List ℕ → List (List ℕ)) → List ℕ → Option (List ℕ × List ℕ) → List (List ℕ)
split_by later text o = elim o [ None ↦ text ∷ [] | Some p ↦ p.0 ∷ later p.1 ]

-- a text cut from the right, by its last cut
abbrev pub rsplit_by : (List ℕ → List (List ℕ)) → List ℕ → Option (List ℕ × List ℕ) → List (List ℕ)
rsplit_by earlier text o = elim o [ None ↦ text ∷ [] | Some p ↦ earlier p.0 ++ p.1 ∷ [] ]

-- how many cuts there are, by the first
abbrev pub cuts_by : (List ℕ → ℕ) → Option (List ℕ × List ℕ) → ℕ
cuts_by later o = elim o [ None ↦ 0 | Some p ↦ 1 + later p.1 ]

-- a text with replacements from the left on, by its first cut
abbrev pub replace_by : (List ℕ → List ℕ) → List ℕ → List ℕ → Option (List ℕ × List ℕ) → List ℕ
replace_by later new text o = elim o [ None ↦ text | Some p ↦ p.0 ++ (new ++ later p.1) ]

-- the last place: one further on, or this one
abbrev pub later : Bool → Option ℕ → Option ℕ
later here o = elim o [ Some k ↦ Some (suc k) | None ↦ if here then Some 0 else None ]
